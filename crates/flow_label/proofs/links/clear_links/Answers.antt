use Rattle.flow_label.proofs.Lemmas.{length, first_links}
use Rattle.flow_label.proofs.links.clear_links.Goals as goal

pub returns-clause-linked : goal.returns-clause-linked
returns-clause-linked c = rw (c.clear.ensures, c.clear-2.ensures.items) (first_links c.args.site.now (length c.args.links.now.owners) c.node-node.ensures.net c.requires)
