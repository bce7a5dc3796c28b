use Rattle.pace_core.proofs.Lemmas.{◌+◌, List, length, refl, sym, ap, ◌∙◌, subst, arith, Write, AreTurns, IsWithinAsk, PacerValue, writes_turn, asked_behind, asked_keeps, ask_within}
use Rattle.pace_core.proofs.pacer.Pacer.ask.Goals as goal

pub ask-requires : goal.ask-requires
ask-requires g c = subst (AreTurns c.self.inside.backlog) (sym c.writes.ensures)
    (writes_turn c.self.inside.specialiser c.self.inside.backlog c.self.inside.sim c.self.inside.rate c.self.inside.luts c.self.inside.depth c.self.invariant c.change.new.self c.args.assigns.now c.change.ensures.pack c.change.ensures.set c.change.ensures.steady)

pub invariant_of-self : goal.invariant_of-self
invariant_of-self g c =
    let behind = asked_behind c.self.inside.specialiser c.self.inside.backlog c.self.inside.sim c.self.inside.rate c.self.inside.luts c.self.inside.depth c.self.invariant c.change.new.self c.args.assigns.now c.change.ensures.pack c.change.ensures.set c.change.ensures.steady
    c.ask.new.self (λ from to is are same. c.ask.ensures.behind from to is (c.writes.ensures ∙ are) same) in
    asked_keeps c.self.inside.specialiser c.self.inside.backlog c.self.inside.sim c.self.inside.rate c.self.inside.luts c.self.inside.depth c.self.invariant c.change.new.self c.args.assigns.now c.change.ensures.pack c.change.ensures.set c.change.ensures.steady
    c.ask.new.self behind

pub returns-clause-cost : goal.returns-clause-cost
returns-clause-cost g c =
    let s = c.change.new.self in
    let b = c.ask.new.self in
    let new : PacerValue = record { pack = s.pack; params = s.state.params; config = b.config; sim = c.self.inside.sim; rate = c.self.inside.rate; looks = s.reads + b.looks } in
    subst (λ (old : PacerValue). IsWithinAsk old new c.args.steps.now c.ask.new.steps) c.self.view_is
    (ask_within c.self.inside.specialiser c.self.inside.backlog c.self.inside.sim c.self.inside.rate c.self.inside.luts c.self.inside.depth c.self.invariant s c.args.assigns.now c.change.ensures.pack c.change.ensures.set c.change.ensures.steady
    new c.args.steps.now c.change.new.steps c.ask.new.steps refl c.change.ensures.cost (c.ask.ensures.cost ∙ ap (λ (ws : List Write). c.change.new.steps + length ws) c.writes.ensures))

pub returns-clause-counted : goal.returns-clause-counted
returns-clause-counted g c =
    let was = ap (λ (p : PacerValue). p.looks) c.self.view_is in
    omega (arith, was, c.change.ensures.counted, c.ask.ensures.looks, c.ask.ensures.cost)
