use Rattle.pace_core.proofs.Lemmas.{length, ap, arith, length-append, differences, BacklogValue, catching_more, differences_few}
use Rattle.pace_core.proofs.backlog.Backlog.catch_up.Goals as goal

pub catch_up_once-requires-clause-room : goal.catch_up_once-requires-clause-room
catch_up_once-requires-clause-room g c =
    let wanted = c.requires.wanted in
    let come = c.loop-self.invariant.come wanted c.requires.behind in
    let all = ap length come.are in
    let parts = length-append c.loop-self.self.writes (differences c.loop-self.self.config wanted) in
    let few = differences_few c.args.self.now.config wanted in
    let waits = ap (λ (b : BacklogValue). b.waiting) c.self-in-loop-self.view_is in
    omega (arith, all, parts, few, waits, come.behind.same, come.behind.waiting, c.loop-self-test.true)

pub loop-self-preserved : goal.loop-self-preserved
loop-self-preserved g c =
    let once = c.catch_up_once.ensures in
    let wanted = c.requires.wanted in
    let count = ap (λ (b : BacklogValue). length b.writes) c.self-in-loop-self.view_is in
    record {
      late = record { wanted = wanted; behind = (once.caught wanted (c.loop-self.invariant.come wanted c.requires.behind).behind).behind };
      come = λ others is.
          let come = c.loop-self.invariant.come others is in
          catching_more others c.args.self.now c.loop-self.self c.catch_up_once.new.self come (once.caught others come.behind);
      few = omega (arith, once.count, count, c.self-in-loop-self.inside.writes.ok.0, c.if-len-rate.true, c.len.ensures);
      looks = omega (arith, once.count, once.looks, c.loop-self.invariant.looks);
      cost = omega (arith, once.count, once.cost, c.loop-self.invariant.cost);
    }
