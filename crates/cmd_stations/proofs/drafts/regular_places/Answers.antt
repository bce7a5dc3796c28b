use Rattle.cmd_stations.proofs.WrittenTableLemmas.{can_be_named}
use Rattle.cmd_stations.proofs.drafts.regular_places.Goals as goal

pub returns : goal.returns
returns c = can_be_named c.args.source.now c.requires c.in_ok-places.places.items c.in_ok-places.ensures.names
