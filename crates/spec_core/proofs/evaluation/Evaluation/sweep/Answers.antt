use Rattle.spec_core.proofs.Lemmas.{sym, ap, subst, arith, IsAnd, IsNode, node_at, PackValue, EvaluationValue, Belong, product_of, visited, IsSweeping-more, swept}
use Rattle.spec_core.proofs.LeastLemmas.{places_fall}
use Rattle.spec_core.proofs.evaluation.Evaluation.sweep.Goals as goal

pub loop-n-smaller : goal.loop-n-smaller
loop-n-smaller g c =
    let b = c.in-Some.ensures.together in
    let and : IsAnd c.loop-n.self.pack.graph c.in-Some.n = b.ands c.in-Some.n c.in-Some.ensures.least.marked in
    let node = node_at c.loop-n.self.pack.graph c.in-Some.n and.0 and.1 in
    let whole = visited c.loop-n.self c.take_node.new.self c.visit.new.self c.in-Some.n node.0 node.1 c.in-Some.ensures.rest c.visit.ensures.value in
    rw whole (places_fall c.loop-n.self.pack c.loop-n.self.readers c.loop-n.self.now c.in-Some.n (product_of c.loop-n.self.now.values node.0) b c.in-Some.ensures.least)

pub loop-n-preserved : goal.loop-n-preserved
loop-n-preserved g c =
    let b = subst (λ (k : PackValue). Belong k c.loop-n.self.readers c.loop-n.self.now) c.loop-n.invariant.pack c.in-Some.ensures.together in
    let and : IsAnd c.args.self.now.pack.graph c.in-Some.n = b.ands c.in-Some.n c.in-Some.ensures.least.marked in
    let node = node_at c.args.self.now.pack.graph c.in-Some.n and.0 and.1 in
    let here = subst (λ (k : PackValue). IsNode k.graph node.0 c.in-Some.n) (sym c.loop-n.invariant.pack) node.1 in
    let whole = visited c.loop-n.self c.take_node.new.self c.visit.new.self c.in-Some.n node.0 here c.in-Some.ensures.rest c.visit.ensures.value in
    rw (whole, c.visit.ensures.cost) (record {
      pack = c.loop-n.invariant.pack;
      readers = c.loop-n.invariant.readers;
      sweeping = λ old new p q fo fn s.
          IsSweeping-more c.args.self.now.pack c.loop-n.self.readers old new p q c.loop-n.self.now c.args.steps.now c.loop-n.steps b fo fn (c.loop-n.invariant.sweeping old new p q fo fn s) c.in-Some.n node.0 c.in-Some.ensures.least node.1;
      counted = omega (arith, c.loop-n.invariant.counted);
    })

pub returns-clause-swept : goal.returns-clause-swept
returns-clause-swept g c = λ old new p q fo fn s.
    let now = ap (λ (e : EvaluationValue). e.now) c.in_default.ensures.rest in
    let b = subst (λ (k : PackValue). Belong k c.loop-n.self.readers c.loop-n.self.now) c.loop-n.invariant.pack c.in_default.ensures.together in
    rw now (swept c.args.self.now.pack c.loop-n.self.readers old new p q c.loop-n.self.now c.args.steps.now c.loop-n.steps b fo fn (c.loop-n.invariant.sweeping old new p q fo fn s) c.in_default.ensures.least)
