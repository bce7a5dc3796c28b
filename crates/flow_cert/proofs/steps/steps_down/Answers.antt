use Rattle.flow_cert.proofs.Common.{◌≡◌, ◌+◌, ◌-◌, ◌<◌, arith, subst, first_and, label_at, AreDoneTo}
use Rattle.flow_cert.proofs.steps.steps_down.Goals as goal

pub loop-i-preserved : goal.loop-i-preserved
loop-i-preserved c =
    let l : c.loop-i.i < c.len.result - (c.sources-first.result + 1) = c.loop-i-test.true in
    let e : c.sources-first.result + 1 + (c.len.result - (c.sources-first.result + 1) - c.loop-i.i) ≡ c.sources-first.result + 1 + (c.len.result - (c.sources-first.result + 1) - 1 - c.loop-i.i) + 1 = omega arith in
    let f : c.sources-first.result + 1 + (c.len.result - (c.sources-first.result + 1) - 1 - c.loop-i.i) ≡ c.sources-first.result + 1 + (c.len.result - (c.sources-first.result + 1) - (c.loop-i.i + 1)) = omega arith in
    record {
      room = c.in_ok-visit.ensures.room;
      met = c.in_ok-visit.ensures.met;
      done = subst (λ n. AreDoneTo c.args.graph.now c.args.k (label_at c.args.labels.now) c.args.begin n c.visit.new.marks.items c.visit.new.steps.items) f
          (c.in_ok-visit.ensures.done c.args.begin (subst (λ n. AreDoneTo c.args.graph.now c.args.k (label_at c.args.labels.now) c.args.begin n c.loop-i.marks.items c.loop-i.steps.items) e c.loop-i.invariant.done));
    }

pub returns : goal.returns
returns c =
    let e : c.sources-first.result + 1 + (c.len.result - (c.sources-first.result + 1) - c.loop-i.i) ≡ first_and c.args.graph.now = omega (arith, c.sources-first.ensures.count, c.loop-i-test.false) in
    (c.loop-i.marks.items, subst (λ n. AreDoneTo c.args.graph.now c.args.k (label_at c.args.labels.now) c.args.begin n c.loop-i.marks.items c.loop-i.steps.items) e c.loop-i.invariant.done)
