use Rattle.blif_flat.proofs.Common.{◌≡◌, drop, foreign_formal}
use Rattle.blif_flat.proofs.model.line_check.check_formals.Given as goal

abbrev pub invariant-loop-pair : goal.invariant-loop-pair
invariant-loop-pair l = foreign_formal l.ports (drop l.pair-index l.pairs) ≡ foreign_formal l.ports l.pairs
