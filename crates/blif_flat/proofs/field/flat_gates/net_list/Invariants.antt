use Rattle.blif_flat.proofs.Common.{◌≡◌, ◌++◌, drop, regular_nets}
use Rattle.blif_flat.proofs.field.flat_gates.net_list.Given as goal

abbrev pub invariant-loop-name : goal.invariant-loop-name
invariant-loop-name l = l.list.items ++ regular_nets l.numbers l.nets l.i (drop l.name-index l.names) ≡ regular_nets l.numbers l.nets l.i l.names
