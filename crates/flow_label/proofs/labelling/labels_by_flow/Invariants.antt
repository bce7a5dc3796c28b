use Rattle.flow_label.proofs.Common.{node_count, AreLabelledTo, AreLowsTo, IsScratch, HasTrunks}
use Rattle.flow_label.proofs.labelling.labels_by_flow.Given as goal

abbrev pub invariant-loop-n : goal.invariant-loop-n
invariant-loop-n l = record {
  labelled : AreLabelledTo l.graph l.k l.n (record { labels = l.labels; cuts = l.cuts.items });
  lows : AreLowsTo l.graph l.k l.n (record { labels = l.labels; cuts = l.cuts.items });
  room : IsScratch (node_count l.graph) l.scratch.walk.readers l.scratch.links.owners l.scratch.search.seen l.scratch.search.passed;
  trunks : HasTrunks l.graph l.n l.scratch.trunks;
}
