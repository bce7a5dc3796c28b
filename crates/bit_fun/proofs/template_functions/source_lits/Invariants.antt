use Rattle.bit_fun.proofs.Common.{HaveSourceLitsTo}
use Rattle.bit_fun.proofs.template_functions.source_lits.Given as goal

abbrev pub invariant-loop-i : goal.invariant-loop-i
invariant-loop-i l = HaveSourceLitsTo l.graph l.i l.count l.lits.items
