use Rattle.flow_label.proofs.Lemmas.{◌<◌, ◌≤◌, sym, subst, arith, length, label_at, ascending_of, IsNearest, barrier_nearest}
use Rattle.flow_label.proofs.question.low_cut.Goals as goal

pub unreachable-requires : goal.unreachable-requires
unreachable-requires c =
    let more : c.args.k < length (ascending_of c.args.kept.now) = c.in-None.ensures in
    let few : length (ascending_of c.args.kept.now) ≤ c.args.k = (barrier_nearest c.args.site.now c.args.links.now.owners c.args.links.now.starts.items c.args.kept.now c.args.k c.node-node.ensures.net c.requires.readers c.requires.linked c.requires.paths c.requires.barrier).cut.cut.few in
    omega arith

pub returns : goal.returns
returns c =
    subst (λ d. IsNearest c.args.site.now.graph c.args.k c.args.site.now.node c.args.site.now.height (label_at c.args.site.now.labels) d) (sym c.in-Some.ensures.0)
    (barrier_nearest c.args.site.now c.args.links.now.owners c.args.links.now.starts.items c.args.kept.now c.args.k c.node-node.ensures.net c.requires.readers c.requires.linked c.requires.paths c.requires.barrier)
