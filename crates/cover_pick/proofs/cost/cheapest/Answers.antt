use Rattle.cover_pick.proofs.Lemmas.{◌∙◌, ℕ, List, [], None, get_or, refl, sym, ap, subst, arith, drop_more, drop_all, row_at, label_at, IsOffer, cut_cost, cheaper_low, cheapest, offer_inside}
use Rattle.cover_pick.proofs.cost.cheapest.Goals as goal

pub loop-i-init : goal.loop-i-init
loop-i-init c = (None, tt, refl)

pub loop-i-preserved : goal.loop-i-preserved
loop-i-preserved c =
    let label : ℕ → ℕ = label_at c.args.labels.now in
    let row : List (List ℕ) = row_at c.args.rows.now c.args.n in
    let cost : List ℕ → ℕ = cut_cost c.args.flows.now c.args.reqs.now in
    let v = c.loop-i.invariant in (
      cheaper_low cost label c.args.r v.0 (get_or row c.loop-i.i []),
      c.cheaper_low-best.ensures v.0 v.1,
      ap (λ s. cheapest cost label c.args.r v.0 s) (sym (drop_more row c.loop-i.i [] (omega arith))) ∙ v.2,
    )

pub returns : goal.returns
returns c =
    let label : ℕ → ℕ = label_at c.args.labels.now in
    let row : List (List ℕ) = row_at c.args.rows.now c.args.n in
    let cost : List ℕ → ℕ = cut_cost c.args.flows.now c.args.reqs.now in
    let v = c.loop-i.invariant in
    subst (λ o. IsOffer cost row c.loop-i.best o) (ap (λ s. cheapest cost label c.args.r v.0 s) (sym (drop_all c.loop-i.i row (omega arith))) ∙ v.2) v.1

pub cheaper_low-best-requires-clause-best : goal.cheaper_low-best-requires-clause-best
cheaper_low-best-requires-clause-best c =
    offer_inside (cut_cost c.args.flows.now c.args.reqs.now) (row_at c.args.rows.now c.args.n) c.loop-i.best c.loop-i.invariant.0 c.loop-i.invariant.1
