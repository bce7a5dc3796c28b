use Rattle.cut_sets.proofs.Common.{◌≡◌, ◌++◌, take, parts_of, AreFlatCuts}
use Rattle.cut_sets.proofs.rows.push_cuts.Given as goal

abbrev pub invariant-loop-cut : goal.invariant-loop-cut
invariant-loop-cut l = record {
  flat : AreFlatCuts l.leaves.items l.starts.items l.signatures.items;
  cuts : parts_of l.starts.items l.leaves.items ≡ parts_of l.fn.starts.items l.fn.leaves.items ++ take l.cut-index l.cuts;
}
