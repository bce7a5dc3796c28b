use Rattle.bench_mapping.proofs.Common.{◌≡◌, Some, inl, inr, ap, ◌∙◌, subst, arith, cases_lt, IsSource}
use Rattle.bench_mapping.proofs.sources.are_of_kind.Goals as goal

pub loop-n-preserved : goal.loop-n-preserved
loop-n-preserved c m above below =
    elim (cases_lt m c.loop-n.n) [
      | inl l ↦ c.loop-n.invariant m above l
      | inr b ↦ subst (λ j. IsSource c.args.graph.now c.args.kind j) (let e : c.loop-n.n ≡ m = omega arith in e) (record { above = omega arith; is = c.kind.ensures ∙ ap (λ k. Some k) (c.is_kind.ensures c.if-not-is_kind.false) })
    ]

pub returns : goal.returns
returns c e n above below = c.loop-n.invariant n above (omega arith)
