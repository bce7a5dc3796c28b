use Rattle.flow_label.proofs.Common.{◌≡◌, [], AreLinks, Searches}
use Rattle.flow_label.proofs.trunks.link_ends.Given as goal

abbrev pub invariant-loop-m : goal.invariant-loop-m
invariant-loop-m l = record {
  linked : AreLinks l.site l.links.owners l.links.starts.items;
  searching : Searches l.site l.links l.search [];
  none : l.search.stack.items ≡ [];
}
