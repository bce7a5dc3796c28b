use Rattle.ppc_pack.proofs.Common.{◌≡◌, map, take, lits_of, value_of}
use Rattle.ppc_pack.proofs.pack.values_of_lits.Given as goal

abbrev pub invariant-loop-lit : goal.invariant-loop-lit
invariant-loop-lit l = l.bits.items ≡ map (value_of l.node_values) (lits_of (take l.lit-index l.lits))
