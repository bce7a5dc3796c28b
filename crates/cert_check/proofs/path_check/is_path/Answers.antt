use Rattle.cert_check.proofs.Common.{◌≡◌, ◌+◌, ◌-◌, subst, arith, get_or, inl, inr, eqb-true, eqb-false, cases_lt, IsFanIn, path_made, path_edge, path_end, path_below}
use Rattle.cert_check.proofs.path_check.is_path.Goals as goal

pub returns-then-not-is_fan_in-clause-no : goal.returns-then-not-is_fan_in-clause-no
returns-then-not-is_fan_in-clause-no c = λ _ path.
    let step : IsFanIn c.args.graph.now (get_or c.args.nodes.now (c.loop-i.i - 1) 0) (get_or c.args.nodes.now (c.loop-i.i - 1 + 1) 0) = path_edge c.args.graph.now c.args.n c.args.nodes.now (c.loop-i.i - 1) path (omega arith) in
    c.is_fan_in.ensures.no c.if-not-is_fan_in.true (subst (λ i. IsFanIn c.args.graph.now (get_or c.args.nodes.now (c.loop-i.i - 1) 0) (get_or c.args.nodes.now i 0)) (let q : c.loop-i.i - 1 + 1 ≡ c.loop-i.i = omega arith in q) step)

pub loop-i-preserved : goal.loop-i-preserved
loop-i-preserved c = record {
  some = c.loop-i.invariant.some;
  source = c.loop-i.invariant.source;
  edges = λ j l. elim (cases_lt (j + 1) c.loop-i.i) [
    | inl b ↦ c.loop-i.invariant.edges j b
    | inr b ↦ (let e : c.loop-i.i - 1 ≡ j = omega arith in let f : c.loop-i.i ≡ j + 1 = omega arith in
        subst (λ i. IsFanIn c.args.graph.now (get_or c.args.nodes.now j 0) (get_or c.args.nodes.now i 0)) f (subst (λ i. IsFanIn c.args.graph.now (get_or c.args.nodes.now i 0) (get_or c.args.nodes.now c.loop-i.i 0)) e (c.is_fan_in.ensures.yes c.if-not-is_fan_in.false)))
  ];
}

pub returns-clause-yes : goal.returns-clause-yes
returns-clause-yes c = λ e. path_made c.args.graph.now c.args.n c.args.nodes.now c.loop-i.invariant.some c.loop-i.invariant.source (λ j l. c.loop-i.invariant.edges j (omega arith)) (eqb-true _ _ e)

pub returns-clause-no : goal.returns-clause-no
returns-clause-no c = λ e path. eqb-false _ _ e (path_end c.args.graph.now c.args.n c.args.nodes.now path)

pub returns-clause-below : goal.returns-clause-below
returns-clause-below c = λ e m i. path_below c.args.graph.now c.args.n c.args.nodes.now m c.is_regular.ensures.normal (path_made c.args.graph.now c.args.n c.args.nodes.now c.loop-i.invariant.some c.loop-i.invariant.source (λ j l. c.loop-i.invariant.edges j (omega arith)) (eqb-true _ _ e)) i
