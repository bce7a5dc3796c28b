use Rattle.cover_pick.proofs.Common.{◌≡◌, true, drop, length, replicate, node_count, all_unmarked}
use Rattle.cover_pick.proofs.free.no_leaves.Given as goal

abbrev pub invariant-loop-lut : goal.invariant-loop-lut
invariant-loop-lut l = record {
  same : all_unmarked l.marks.items (drop l.lut-index l.luts) ≡ all_unmarked (replicate (node_count l.graph) true) l.luts;
  long : length l.marks.items ≡ node_count l.graph;
}
