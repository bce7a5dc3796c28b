use Rattle.blif_flat.proofs.Common.{◌≡◌, length, LibraryValue, IsNets, links_out, AreLinesOf}
use Rattle.blif_flat.proofs.circuit.net_table.links_out.Given as goal

abbrev pub invariant-loop-left : goal.invariant-loop-left
invariant-loop-left l = record {
  out : (library : LibraryValue) → AreLinesOf library l.placed.lines.now l.placed.ports.now → links_out library l.placed.instances.now l.nets l.left ≡ links_out library l.placed.instances.now l.initial.nets (length l.placed.instances.now);
  nets : IsNets l.nets;
}

abbrev pub decreases-loop-left : goal.decreases-loop-left
decreases-loop-left l = l.left
