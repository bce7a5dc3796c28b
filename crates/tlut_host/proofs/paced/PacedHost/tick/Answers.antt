use Rattle.tlut_host.proofs.Lemmas.{ℕ, eqb, ap, subst, PacedValue, IsTick, seen, ticked}
use Rattle.tlut_host.proofs.paced.PacedHost.tick.Goals as goal

pub returns : goal.returns
returns c =
    let s = c.self.inside.specialiser in let b = c.self.inside.backlog in let after = c.catch_up_with.new.backlog in let rate = c.self.inside.rate in let is_right = eqb c.waiting-is_right.result 0 in
    subst (λ (old : PacedValue). IsTick old (seen s after rate) is_right) c.self.view_is
    (ticked s b after rate is_right c.self.invariant.pacing (c.catch_up_with.ensures s.state.config c.self.invariant.pacing.behind) (ap (λ (n : ℕ). eqb n 0) c.waiting-is_right.ensures))
