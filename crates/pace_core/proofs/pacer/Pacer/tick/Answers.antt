use Rattle.pace_core.proofs.Lemmas.{◌<◌, ◌+◌, sym, ap, ◌∙◌, subst, arith, IsWithinTick, PacerValue, IsTicked, waited, cycled, tick_steps, tick_waits, tick_within, cycle_within}
use Rattle.pace_core.proofs.pacer.Pacer.tick.Goals as goal

pub catch_up-requires : goal.catch_up-requires
catch_up-requires g c = record { wanted = c.self.inside.specialiser.state.config; behind = c.self.invariant.behind }

pub returns-then-waiting-eq0-clause-ticked : goal.returns-then-waiting-eq0-clause-ticked
returns-then-waiting-eq0-clause-ticked g c =
    let s = c.self.inside.specialiser in
    let b = c.self.inside.backlog in
    let sim = c.self.inside.sim in
    let after = c.cycle.new.sim in
    let ticked = tick_steps s b sim c.self.inside.rate c.self.inside.luts c.self.inside.depth c.self.invariant after c.args.values.now (sym c.waiting.ensures ∙ c.if-waiting-eq0.true) c.cycle.ensures.cycle c.cycle.ensures.only c.cycle.ensures.template c.cycle.ensures.shape in (
      cycled c.outputs.result.now c.states.result.now,
      rw (c.outputs.ensures.value, c.states.ensures.value) (subst (λ (old : PacerValue). IsTicked c.args.values.now old (record { pack = s.pack; params = s.state.params; config = b.config; sim = after; rate = c.self.inside.rate; looks = s.reads + b.looks }) (cycled after.outputs after.states)) c.self.view_is ticked),
      c.put_cycle.ensures,
    )

pub returns-then-waiting-eq0-clause-cost : goal.returns-then-waiting-eq0-clause-cost
returns-then-waiting-eq0-clause-cost g c = subst (λ (old : PacerValue). IsWithinTick old c.args.steps.now c.args.steps.now) c.self.view_is
    (cycle_within c.self.inside.specialiser c.self.inside.backlog c.self.inside.sim c.self.inside.rate c.self.inside.luts c.self.inside.depth c.self.invariant c.args.steps.now)

pub returns-else-waiting-eq0-clause-ticked : goal.returns-else-waiting-eq0-clause-ticked
returns-else-waiting-eq0-clause-ticked g c =
    let s = c.self.inside.specialiser in
    let b = c.self.inside.backlog in
    let rate = c.self.inside.rate in
    let some : 0 < b.waiting = omega (arith, c.waiting.ensures, c.if-waiting-eq0.false) in
    let writes = c.writes.ensures ∙ c.catch_up.ensures.writes s.state.config c.self.invariant.behind in
    let config = c.catch_up.ensures.config s.state.config c.self.invariant.behind in (
      waited c.writes.result.now,
      subst (λ (old : PacerValue). IsTicked c.args.values.now old (record { pack = s.pack; params = s.state.params; config = c.catch_up.new.self.config; sim = c.self.inside.sim; rate = rate; looks = s.reads + c.catch_up.new.self.looks }) (waited c.writes.result.now)) c.self.view_is
          (tick_waits s b c.self.inside.sim rate c.self.inside.luts c.self.inside.depth c.self.invariant c.catch_up.new.self.config c.writes.result.now (s.reads + c.catch_up.new.self.looks) c.args.values.now some writes config),
      c.put_wait.ensures,
    )

pub returns-else-waiting-eq0-clause-cost : goal.returns-else-waiting-eq0-clause-cost
returns-else-waiting-eq0-clause-cost g c = subst (λ (old : PacerValue). IsWithinTick old c.args.steps.now c.catch_up.new.steps) c.self.view_is
    (tick_within c.self.inside.specialiser c.self.inside.backlog c.self.inside.sim c.self.inside.rate c.self.inside.luts c.self.inside.depth c.self.invariant
    c.catch_up.new.self.writes c.args.steps.now c.catch_up.new.steps (c.catch_up.ensures.writes c.self.inside.specialiser.state.config c.self.invariant.behind) c.catch_up.ensures.cost)

pub returns-else-waiting-eq0-clause-counted : goal.returns-else-waiting-eq0-clause-counted
returns-else-waiting-eq0-clause-counted g c =
    let was = ap (λ (p : PacerValue). p.looks) c.self.view_is in
    omega (arith, was, c.catch_up.ensures.looks, c.catch_up.ensures.cost)
