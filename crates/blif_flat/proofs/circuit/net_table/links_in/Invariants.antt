use Rattle.blif_flat.proofs.Common.{◌≡◌, LibraryValue, IsNets, links_in, AreLinesOf}
use Rattle.blif_flat.proofs.circuit.net_table.links_in.Given as goal

abbrev pub invariant-loop-j : goal.invariant-loop-j
invariant-loop-j l = record {
  inside : (library : LibraryValue) → AreLinesOf library l.placed.lines.now l.placed.ports.now → l.nets ≡ links_in library l.placed.instances.now l.initial.nets l.j;
  nets : IsNets l.nets;
}
