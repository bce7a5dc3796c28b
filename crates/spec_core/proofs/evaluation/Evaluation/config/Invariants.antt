use Rattle.spec_core.proofs.Common.{◌≡◌, take, bits_under}
use Rattle.spec_core.proofs.evaluation.Evaluation.config.Given as goal

abbrev pub invariant-loop-address : goal.invariant-loop-address
invariant-loop-address l = l.bits.items ≡ take l.address (bits_under l.self.pack l.self.now.values)
