use Rattle.cut_enum.proofs.Lemmas.{◌≡◌, ◌+◌, ◌*◌, ◌≤◌, ◌∙◌, ℕ, List, false, length, slice_range, ap, sym, arith, list_any, GROUP, subset, group_passed, group_length, signed_range, signed_rest}
use Rattle.cut_enum.proofs.signed.has_part_in_groups.Goals as goal

pub has_grouped_part-requires-clause-signed : goal.has_grouped_part-requires-clause-signed
has_grouped_part-requires-clause-signed c =
    signed_range c.parts.inside.signatures.now c.parts.inside.cuts.now (c.loop-n.n * GROUP) (c.loop-n.n * GROUP + GROUP) c.parts.invariant.signed

pub loop-n-preserved : goal.loop-n-preserved
loop-n-preserved c =
    let none : list_any (λ d. subset d c.args.cut.now) (slice_range c.args.parts.now (c.loop-n.n * GROUP) (c.loop-n.n * GROUP + GROUP)) ≡ false =
    ap (λ (s : List (List ℕ)). list_any (λ d. subset d c.args.cut.now) (slice_range s (c.loop-n.n * GROUP) (c.loop-n.n * GROUP + GROUP))) (sym c.parts.view_is) ∙ sym c.has_grouped_part.ensures ∙ c.if-has_grouped_part.false in
    group_passed c.args.cut.now c.args.parts.now c.loop-n.n (list_any (λ d. subset d c.args.cut.now) c.args.parts.now) none c.loop-n.invariant

pub has_listed_part-requires-clause-signed : goal.has_listed_part-requires-clause-signed
has_listed_part-requires-clause-signed c = signed_rest c.parts.inside.signatures.now c.parts.inside.cuts.now (length c.parts.inside.shared.now * GROUP) c.parts.invariant.signed

pub has_grouped_part-requires-clause-group : goal.has_grouped_part-requires-clause-group
has_grouped_part-requires-clause-group c =
    let within : length c.parts.inside.shared.now * GROUP ≤ length c.parts.inside.signatures.now = c.parts.invariant.grouped.within in
    group_length c.parts.inside.signatures.now (c.loop-n.n * GROUP) (omega arith)
