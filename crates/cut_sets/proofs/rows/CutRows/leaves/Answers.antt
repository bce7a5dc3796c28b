use Rattle.cut_sets.proofs.Lemmas.{◌≡◌, ◌+◌, ◌∙◌, ap, sym, subst, [], length, arith, get_or, parts_of, row_at, IsAscending, slice_get-get_or, Some, cut_read}
use Rattle.cut_sets.proofs.rows.CutRows.leaves.Goals as goal

pub place_of-requires-clause-inside : goal.place_of-requires-clause-inside
place_of-requires-clause-inside c =
    let read = cut_read c.self.inside.leaves.items c.self.inside.starts.items c.self.inside.signatures.items c.self.inside.rows.items c.args.self.now c.args.n c.args.i c.self.invariant c.self.view_is c.requires in
    rw (c.deref-3.ensures.value) read.row_in

pub leaves_at-requires-clause-inside : goal.leaves_at-requires-clause-inside
leaves_at-requires-clause-inside c =
    let read = cut_read c.self.inside.leaves.items c.self.inside.starts.items c.self.inside.signatures.items c.self.inside.rows.items c.args.self.now c.args.n c.args.i c.self.invariant c.self.view_is c.requires in
    omega (arith, read.start_in, c.place_of.ensures, ap length c.deref-2.ensures.value, ap (λ t. get_or t c.args.n 0) c.deref-3.ensures.value)

-- the leaves that were read are those of the cut
is_cut : (c : goal.After-leaves_at) → c.leaves_at.result.now ≡ get_or (row_at c.args.self.now c.args.n) c.args.i []
is_cut c =
    let read = cut_read c.self.inside.leaves.items c.self.inside.starts.items c.self.inside.signatures.items c.self.inside.rows.items c.args.self.now c.args.n c.args.i c.self.invariant c.self.view_is c.requires in
    c.leaves_at.ensures ∙ (ap (λ t. get_or (parts_of t c.deref.result.now) c.place_of.result []) c.deref-2.ensures.value ∙ (ap (λ t. get_or (parts_of c.self.inside.starts.items t) c.place_of.result []) c.deref.ensures.value
    ∙ (ap (λ m. get_or (parts_of c.self.inside.starts.items c.self.inside.leaves.items) m []) (c.place_of.ensures ∙ ap (λ t. get_or t c.args.n 0 + c.args.i) c.deref-3.ensures.value) ∙ read.leaves_are)))

pub returns-clause-leaves : goal.returns-clause-leaves
returns-clause-leaves c = slice_get-get_or (row_at c.args.self.now c.args.n) c.args.i [] c.requires ∙ ap Some (sym (is_cut c))

pub returns-clause-ascending : goal.returns-clause-ascending
returns-clause-ascending c =
    let read = cut_read c.self.inside.leaves.items c.self.inside.starts.items c.self.inside.signatures.items c.self.inside.rows.items c.args.self.now c.args.n c.args.i c.self.invariant c.self.view_is c.requires in
    subst IsAscending (sym (is_cut c)) read.short.ascending

pub returns-clause-few : goal.returns-clause-few
returns-clause-few c =
    let read = cut_read c.self.inside.leaves.items c.self.inside.starts.items c.self.inside.signatures.items c.self.inside.rows.items c.args.self.now c.args.n c.args.i c.self.invariant c.self.view_is c.requires in
    omega (arith, ap length (is_cut c), read.short.few)
