use Rattle.bit_fun.proofs.Common.{take, reverse, IsMadeOver}
use Rattle.bit_fun.proofs.cone_functions.make_nodes.Given as goal

abbrev pub invariant-loop-n : goal.invariant-loop-n
invariant-loop-n l = IsMadeOver l.graph l.fn.pack l.fn.lits (reverse (take l.n-index l.order)) l.pack l.lits
