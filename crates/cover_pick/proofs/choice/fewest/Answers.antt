use Rattle.cover_pick.proofs.Lemmas.{◌≡◌, ℕ, List, [], length, None, get_or, refl, sym, subst, arith, get_or_from_slice_get, row_at, label_at, IsAt, IsShorter, better, fewest, ◌∙◌, ap, drop_more, drop_all, fewest_stops}
use Rattle.cover_pick.proofs.choice.fewest.Goals as goal

pub loop-i-init : goal.loop-i-init
loop-i-init c = (None, tt, refl)

pub loop-i-preserved : goal.loop-i-preserved
loop-i-preserved c =
    let label : ℕ → ℕ = label_at c.args.labels.now in
    let row : List (List ℕ) = row_at c.args.rows.now c.args.n in
    let v = c.loop-i.invariant in
    (better label c.args.r v.0 (get_or row c.loop-i.i []), c.better-best.ensures v.0 v.1, ap (λ s. fewest label c.args.r v.0 s) (sym (drop_more row c.loop-i.i [] (omega arith))) ∙ v.2)

pub returns-then-has_fewer : goal.returns-then-has_fewer
returns-then-has_fewer c =
    let label : ℕ → ℕ = label_at c.args.labels.now in
    let row : List (List ℕ) = row_at c.args.rows.now c.args.n in
    let v = c.loop-i.invariant in
    let at : get_or row c.loop-i.i [] ≡ c.leaves.result.now = get_or_from_slice_get row c.loop-i.i c.leaves.result.now [] c.leaves.ensures.leaves in
    let shorter : IsShorter c.loop-i.best (length (get_or row c.loop-i.i [])) = subst (λ (s : List ℕ). IsShorter c.loop-i.best (length s)) (sym at) (c.has_fewer.ensures c.if-has_fewer.true) in
    subst (λ o. IsAt label row c.loop-i.best o) (fewest_stops label c.args.r row c.loop-i.best v.0 (fewest label c.args.r None row) c.loop-i.i c.requires (omega arith) shorter v.1 v.2) v.1

pub returns : goal.returns
returns c =
    let label : ℕ → ℕ = label_at c.args.labels.now in
    let row : List (List ℕ) = row_at c.args.rows.now c.args.n in
    let v = c.loop-i.invariant in
    subst (λ o. IsAt label row c.loop-i.best o) (ap (λ s. fewest label c.args.r v.0 s) (sym (drop_all c.loop-i.i row (omega arith))) ∙ v.2) v.1
