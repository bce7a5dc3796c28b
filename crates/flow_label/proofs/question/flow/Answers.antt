use Rattle.flow_label.proofs.Lemmas.{links_high}
use Rattle.flow_label.proofs.question.flow.Goals as goal

pub returns-in-Found-clause-shown : goal.returns-in-Found-clause-shown
returns-in-Found-clause-shown c =
    links_high c.args.site.now c.add_paths.new.links.owners c.add_paths.new.links.starts.items c.args.k c.node-node.ensures.net c.requires.readers c.in_ok-end.ensures.linked (rw c.in-Found.is at c.in_ok-end.ensures.added)
