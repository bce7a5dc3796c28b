use Rattle.aig_build.proofs.Common.{◌≡◌, ◌++◌, drop, net_lits}
use Rattle.aig_build.proofs.net_lits.fill.Given as goal

abbrev pub invariant-loop-net : goal.invariant-loop-net
invariant-loop-net l = l.lits.items ++ net_lits l.nets (drop l.net-index l.numbers) ≡ net_lits l.nets l.numbers
