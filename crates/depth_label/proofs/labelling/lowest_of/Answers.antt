use Rattle.depth_label.proofs.Common.{◌≡◌, ◌+◌, ◌<◌, ◌∙◌, ℕ, List, [], length, Option, None, get_or, drop, refl, sym, ap, subst, arith, drop_more, drop_all, row_at, label_at, IsAt, lower_of, lowest}
use Rattle.depth_label.proofs.labelling.lowest_of.Goals as goal

-- the fold goes on with the next cut
lowest_next : (label : ℕ → ℕ) (cs : List (List ℕ)) (o full : Option (List ℕ)) (i : ℕ) → i < length cs → lowest label o (drop i cs) ≡ full → lowest label (lower_of label o (get_or cs i [])) (drop (i + 1) cs) ≡ full
lowest_next label cs o full i l e = ap (λ s. lowest label o s) (sym (drop_more cs i [] l)) ∙ e

pub loop-i-init : goal.loop-i-init
loop-i-init c = (None, tt, refl)

pub loop-i-preserved : goal.loop-i-preserved
loop-i-preserved c =
    let label : ℕ → ℕ = label_at c.args.labels.now in
    let row : List (List ℕ) = row_at c.args.table.now c.args.n in
    let v = c.loop-i.invariant in
    (lower_of label v.0 (get_or row c.loop-i.i []), c.lower-best.ensures v.0 v.1, lowest_next label row v.0 (lowest label None row) c.loop-i.i (omega arith) v.2)

pub returns : goal.returns
returns c =
    let label : ℕ → ℕ = label_at c.args.labels.now in
    let row : List (List ℕ) = row_at c.args.table.now c.args.n in
    let v = c.loop-i.invariant in
    subst (λ o. IsAt label row c.loop-i.best o) (ap (λ s. lowest label v.0 s) (sym (drop_all c.loop-i.i row (omega arith))) ∙ v.2) v.1
