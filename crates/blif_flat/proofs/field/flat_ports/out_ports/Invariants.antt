use Rattle.blif_flat.proofs.Common.{◌≡◌, ◌++◌, map, drop, out_port}
use Rattle.blif_flat.proofs.field.flat_ports.out_ports.Given as goal

abbrev pub invariant-loop-name : goal.invariant-loop-name
invariant-loop-name l = l.ports.items ++ map (out_port l.numbers l.nets) (drop l.name-index l.names) ≡ map (out_port l.numbers l.nets) l.names
