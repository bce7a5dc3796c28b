use Rattle.flow_label.proofs.Common.{In-get_or}
use Rattle.flow_label.proofs.trunks.link_ends.Goals as goal

pub search_from-requires-clause-end : goal.search_from-requires-clause-end
search_from-requires-clause-end c = c.ends-m-items.ensures.only _ (In-get_or c.ends-m-items.result.now c.loop-m.m-index 0 c.loop-m-test.true)
