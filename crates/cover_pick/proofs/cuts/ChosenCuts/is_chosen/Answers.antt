use Rattle.cover_pick.proofs.Lemmas.{◌≡◌, ◌∙◌, ℕ, List, Option, None, Some, refl, sym, ap, row_at, cut_of, has_cut, is_some, cut_at_place}
use Rattle.cover_pick.proofs.cuts.ChosenCuts.is_chosen.Goals as goal

-- there is a cut where there is a place
has_place : (row : List (List ℕ)) (p : Option ℕ) → has_cut (cut_of row p) ≡ is_some p
has_place row None = refl
has_place row (Some i) = refl

pub returns : goal.returns
returns c =
    let rows = c.self.inside.rows.now in
    c.is_some.ensures ∙ sym (ap has_cut (cut_at_place rows c.self.inside.places.items c.deref.result.now c.args.self.now c.args.n c.place_at.result c.place_at.result c.self.view_is c.deref.ensures.value c.place_at.ensures refl)
    ∙ has_place (row_at rows c.args.n) c.place_at.result)
