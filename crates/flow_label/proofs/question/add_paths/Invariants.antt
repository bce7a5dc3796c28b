use Rattle.flow_label.proofs.Common.{◌≡◌, length, node_count, AreLinks}
use Rattle.flow_label.proofs.question.add_paths.Given as goal

abbrev pub invariant-loop-i : goal.invariant-loop-i
invariant-loop-i l = record {
  linked : AreLinks l.site l.links.owners l.links.starts.items;
  count : length l.links.starts.items ≡ l._i;
  room : length l.search.seen ≡ node_count l.site.graph;
  marks : length l.search.passed ≡ node_count l.site.graph;
}
