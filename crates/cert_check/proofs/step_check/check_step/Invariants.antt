use Rattle.cert_check.proofs.StepLemmas.{AreTaken}
use Rattle.cert_check.proofs.step_check.check_step.Given as goal

abbrev pub invariant-loop-path : goal.invariant-loop-path
invariant-loop-path l = AreTaken l.graph l.claims l.step l.path-index l.stamps.items
