use Rattle.cut_sets.proofs.Lemmas.{◌≡◌, ◌+◌, ◌∙◌, ap, sym, [], length, arith, get_or, parts_of, row_at, slice_get-get_or, Some, cut_read}
use Rattle.cut_sets.proofs.rows.CutRows.cut.Goals as goal

pub place_of-place-requires-clause-inside : goal.place_of-place-requires-clause-inside
place_of-place-requires-clause-inside c =
    let read = cut_read c.self.inside.leaves.items c.self.inside.starts.items c.self.inside.signatures.items c.self.inside.rows.items c.args.self.now c.args.n c.args.i c.self.invariant c.self.view_is c.requires in
    rw (c.deref.ensures.value) read.row_in

pub cut_at-requires-clause-inside : goal.cut_at-requires-clause-inside
cut_at-requires-clause-inside c =
    let read = cut_read c.self.inside.leaves.items c.self.inside.starts.items c.self.inside.signatures.items c.self.inside.rows.items c.args.self.now c.args.n c.args.i c.self.invariant c.self.view_is c.requires in
    omega (arith, read.start_in, c.place_of-place.ensures, ap length c.deref-3.ensures.value, ap (λ t. get_or t c.args.n 0) c.deref.ensures.value)

pub returns : goal.returns
returns c =
    let read = cut_read c.self.inside.leaves.items c.self.inside.starts.items c.self.inside.signatures.items c.self.inside.rows.items c.args.self.now c.args.n c.args.i c.self.invariant c.self.view_is c.requires in
    let is : c.cut_at.result ≡ get_or (row_at c.args.self.now c.args.n) c.args.i [] =
    c.cut_at.ensures ∙ (ap (λ t. get_or (parts_of t c.deref-2.result.now) c.place_of-place.result []) c.deref-3.ensures.value ∙ (ap (λ t. get_or (parts_of c.self.inside.starts.items t) c.place_of-place.result []) c.deref-2.ensures.value
    ∙ (ap (λ m. get_or (parts_of c.self.inside.starts.items c.self.inside.leaves.items) m []) (c.place_of-place.ensures ∙ ap (λ t. get_or t c.args.n 0 + c.args.i) c.deref.ensures.value) ∙ read.leaves_are))) in
    slice_get-get_or (row_at c.args.self.now c.args.n) c.args.i [] c.requires ∙ ap Some (sym is)
