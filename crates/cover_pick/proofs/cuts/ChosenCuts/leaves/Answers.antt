use Rattle.cover_pick.proofs.Lemmas.{◌∙◌, [], None, Some, sym, ap, get_or_from_slice_get, row_at, or_empty, cut_at_place}
use Rattle.cover_pick.proofs.cuts.ChosenCuts.leaves.Goals as goal

pub returns-in-None : goal.returns-in-None
returns-in-None c =
    sym (ap or_empty (cut_at_place c.self.inside.rows.now c.self.inside.places.items c.deref.result.now c.args.self.now c.args.n c.place_at.result None c.self.view_is c.deref.ensures.value c.place_at.ensures c.in-None.is))

pub returns-in-Some : goal.returns-in-Some
returns-in-Some c =
    let rows = c.self.inside.rows.now in
    sym (ap or_empty (cut_at_place rows c.self.inside.places.items c.deref.result.now c.args.self.now c.args.n c.place_at.result (Some c.in-Some.place) c.self.view_is c.deref.ensures.value c.place_at.ensures c.in-Some.is)
    ∙ get_or_from_slice_get (row_at rows c.args.n) c.in-Some.place c.leaves.result.now [] c.leaves.ensures.leaves)
