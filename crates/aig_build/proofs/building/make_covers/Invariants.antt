use Rattle.aig_build.proofs.Common.{◌≡◌, drop, with_pairs, order_of, HoldsNets}
use Rattle.aig_build.proofs.building.make_covers.Given as goal

abbrev pub invariant-loop-k : goal.invariant-loop-k
invariant-loop-k l = record {
  graph : l.graph ≡ with_pairs l.initial.graph l.graph.pairs;
  walked : order_of l.library l.flat l.graph l.nets (drop l.k-index l.flat.order) ≡ order_of l.library l.flat l.initial.graph l.initial.nets l.flat.order;
  holds : HoldsNets l.flat l.graph l.nets;
}
