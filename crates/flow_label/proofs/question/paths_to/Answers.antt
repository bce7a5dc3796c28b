use Rattle.flow_label.proofs.Lemmas.{sym, subst, net_of, net_is, readers_on, full_ground}
use Rattle.flow_label.proofs.Common.{AreReaders, IsGround, SiteValue}
use Rattle.flow_label.proofs.question.paths_to.Goals as goal

pub make-site-requires-clause-net : goal.make-site-requires-clause-net
make-site-requires-clause-net c =
    net_is c.args.graph.now c.args.labels.now c.args.n c.args.height c.walk_down.new.walk.readers c.sources.result c.deref-2.result.now c.requires.node c.requires.high c.len-count.ensures.normal c.requires.known c.in_ok-walk_down.ensures.readers
    (subst (λ f. IsGround c.args.graph.now c.args.n f c.deref-2.result.now) (sym c.sources.ensures.count) (full_ground c.args.graph.now c.args.n c.deref-2.result.now c.requires.node))

pub all_paths-requires-clause-readers : goal.all_paths-requires-clause-readers
all_paths-requires-clause-readers c =
    subst (λ (s : SiteValue). AreReaders (net_of s)) (sym c.make-site.ensures)
    (readers_on c.args.graph.now c.args.labels.now c.args.n c.args.height c.walk_down.new.walk.readers c.sources.result c.deref-2.result.now c.in_ok-walk_down.ensures.readers)
