use Rattle.cert_check.proofs.CheckLemmas.{AreStepsTaken}
use Rattle.cert_check.proofs.checking.take_steps.Given as goal

abbrev pub invariant-loop-step : goal.invariant-loop-step
invariant-loop-step l = AreStepsTaken l.graph l.k l.steps l.step-index l.last l.claims.items l.stamps.items
