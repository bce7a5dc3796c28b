use Rattle.flow_label.proofs.Lemmas.{◌<◌, map-append, sym, subst, length, get_or, IsSource, Regular, In-get_or, net_of, owner_in, IsWayTo, ways_push, root_source}
use Rattle.flow_label.proofs.ways.paths_of.Goals as goal

pub path_from-requires-clause-source : goal.path_from-requires-clause-source
path_from-requires-clause-source c = subst (λ xs. IsSource c.args.site.now.graph Regular (get_or xs c.loop-s.s-index 0)) (sym c.deref-s-items.ensures.value)
    (root_source (net_of c.args.site.now) c.requires.full _ (c.requires.linked.routed.begin.root _ (In-get_or c.args.links.now.starts.items c.loop-s.s-index 0 (subst (λ xs. c.loop-s.s-index < length xs) c.deref-s-items.ensures.value c.loop-s-test.true))))

pub path_from-requires-clause-owned : goal.path_from-requires-clause-owned
path_from-requires-clause-owned c = subst (λ xs. 0 < owner_in c.args.site.now c.args.links.now.owners (get_or xs c.loop-s.s-index 0)) (sym c.deref-s-items.ensures.value)
    (c.requires.linked.routed.begin.owned _ (In-get_or c.args.links.now.starts.items c.loop-s.s-index 0 (subst (λ xs. c.loop-s.s-index < length xs) c.deref-s-items.ensures.value c.loop-s-test.true)))

pub loop-s-preserved : goal.loop-s-preserved
loop-s-preserved c = rw (c.in_ok-push.ensures.items, map-append)
    (ways_push (net_of c.args.site.now) (owner_in c.args.site.now c.args.links.now.owners) c.args.links.now.starts.items c.loop-s.s-index _ c.in_ok-path.path.items c.loop-s.invariant
    (subst (λ xs. IsWayTo (net_of c.args.site.now) (owner_in c.args.site.now c.args.links.now.owners) (get_or xs c.loop-s.s-index 0) c.args.site.now.node c.in_ok-path.path.items) c.deref-s-items.ensures.value c.in_ok-path.ensures))
