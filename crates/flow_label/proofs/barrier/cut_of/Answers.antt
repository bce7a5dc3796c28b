use Rattle.flow_label.proofs.Lemmas.{◌<◌, ◌≤◌, arith, length, refl, union, cut_more, cut_over, cut_all}
use Rattle.flow_label.proofs.barrier.cut_of.Goals as goal

pub loop-m-init : goal.loop-m-init
loop-m-init c = rw c.empty-cut.ensures (record { rest = refl; few = omega arith })

pub returns-in-None : goal.returns-in-None
returns-in-None c =
    let over : c.from.result < length (union c.one.result c.loop-m.cut) = c.in-None.ensures in
    cut_over c.args.nodes.now c.loop-m.cut c.one.result c.loop-m.m-index c.args.k c.loop-m-test.true c.one.ensures (omega (arith, c.from.ensures)) c.loop-m.invariant.rest

pub loop-m-preserved : goal.loop-m-preserved
loop-m-preserved c =
    let few : length c.in-Some.larger ≤ c.from.result = c.in-Some.ensures.1 in
    record {
      rest = cut_more c.args.nodes.now c.loop-m.cut c.in-Some.larger c.one.result c.loop-m.m-index c.loop-m-test.true c.one.ensures c.in-Some.ensures.0 c.loop-m.invariant.rest;
      few = omega (arith, c.from.ensures);
    }

pub returns : goal.returns
returns c = (cut_all c.args.nodes.now c.loop-m.cut c.loop-m.m-index c.loop-m-test.false c.loop-m.invariant.rest, c.loop-m.invariant.few)
