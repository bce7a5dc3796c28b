use Rattle.flow_label.proofs.Lemmas.{◌^◌, sym, subst, ◌≡◌, ◌<◌, ◌≤◌, ◌+◌, ◌∙◌, ◌++◌, ◌-◌, ◌∷◌, [], arith, ap, length, get_or, refl, length-set, node_count, In-get_or, net_of, owner_in, CanTurn, get_or_read, live_inside, met_short, IsTurning, owner_set, can_turn, turned, begin, finish}
use Rattle.flow_label.proofs.augment.add_path.Goals as goal

pub overflow_cast-place : goal.overflow_cast-place
overflow_cast-place c =
    let short : length c.args.search.now.queue.items ≤ c.args.site.now.node = met_short (net_of c.args.site.now) (owner_in c.args.site.now c.args.links.now.owners) c.args.search.now.queue.items c.args.search.now.backs.items c.requires.found.met in
    let top : c.args.site.now.node < node_count c.args.site.now.graph = c.node-node.ensures.net.and.1 in
    let small : node_count c.args.site.now.graph ≤ 2 ^ 30 = c.node-node.ensures.small in
    let len : c.len.result ≡ length c.args.search.now.queue.items = c.len.ensures ∙ c.args.search.now.queue.ok.0 in
    omega arith

pub loop-links-init : goal.loop-links-init
loop-links-init c =
    let and : 0 < c.args.site.now.node = (let a : 1 + length c.args.site.now.graph.kinds ≤ c.args.site.now.node = c.node-node.ensures.net.and.0 in omega arith) in
    let len : length c.args.search.now.queue.items ≡ c.len.result = sym (c.len.ensures ∙ c.args.search.now.queue.ok.0) in
    let at : c.len.result - 1 < length c.args.search.now.queue.items = omega (arith, c.requires.found.some) in
    record {
      turning = subst (λ n. IsTurning (net_of c.args.site.now) (length c.args.links.now.starts.items) (owner_in c.args.site.now c.args.links.now.owners) c.args.search.now.queue.items (length c.args.search.now.queue.items - 1) (owner_in c.args.site.now c.args.links.now.owners) (n - 1)) len
          (begin (net_of c.args.site.now) (length c.args.links.now.starts.items) (owner_in c.args.site.now c.args.links.now.owners) c.args.search.now.queue.items c.args.search.now.backs.items (length c.args.search.now.queue.items - 1) c.requires.found.met (omega (arith, c.requires.found.some))
          c.requires.linked.chosen c.requires.linked.routed.linked and c.requires.found.free);
      size = c.requires.linked.size;
      starts = c.in_ok-push.ensures.items ∙ (ap (λ x. c.args.links.now.starts.items ++ x ∷ []) (get_or_read c.args.search.now.queue.items (c.len.result - 1) c.index.result.now at c.index.ensures 0)
          ∙ ap (λ n. c.args.links.now.starts.items ++ get_or c.args.search.now.queue.items (n - 1) 0 ∷ []) (sym len));
    }

pub turn-j-requires-clause-range : goal.turn-j-requires-clause-range
turn-j-requires-clause-range c =
    let t = c.loop-links.invariant.turning in
    let count : length c.args.search.now.backs.items ≡ length c.args.search.now.queue.items = c.requires.found.met.count in
    let place : c.loop-links.j < length c.args.search.now.queue.items = t.place in
    let back : c.index-in-loop-links.result.now ≡ get_or c.args.search.now.backs.items c.loop-links.j 0 = get_or_read c.args.search.now.backs.items c.loop-links.j c.index-in-loop-links.result.now (omega arith) c.index-in-loop-links.ensures 0 in
    can_turn c.args.site.now (length c.args.links.now.starts.items) (owner_in c.args.site.now c.args.links.now.owners) c.args.search.now.queue.items c.args.search.now.backs.items (length c.args.search.now.queue.items - 1) c.requires.found.met (omega (arith, c.requires.found.some))
    c.loop-links.links.owners c.loop-links.j t (let m : 0 < c.index-in-loop-links.result.now = c.loop-links-test.true in omega arith)

pub loop-links-preserved : goal.loop-links-preserved
loop-links-preserved c =
    let t = c.loop-links.invariant.turning in
    let count : length c.args.search.now.backs.items ≡ length c.args.search.now.queue.items = c.requires.found.met.count in
    let place : c.loop-links.j < length c.args.search.now.queue.items = t.place in
    let back : c.index-in-loop-links.result.now ≡ get_or c.args.search.now.backs.items c.loop-links.j 0 = get_or_read c.args.search.now.backs.items c.loop-links.j c.index-in-loop-links.result.now (omega arith) c.index-in-loop-links.ensures 0 in
    let more : 0 < get_or c.args.search.now.backs.items c.loop-links.j 0 = (let m : 0 < c.index-in-loop-links.result.now = c.loop-links-test.true in omega arith) in
    let r : CanTurn c.args.site.now c.loop-links.links.owners c.args.search.now.queue.items c.args.search.now.backs.items c.loop-links.j =
    can_turn c.args.site.now (length c.args.links.now.starts.items) (owner_in c.args.site.now c.args.links.now.owners) c.args.search.now.queue.items c.args.search.now.backs.items (length c.args.search.now.queue.items - 1) c.requires.found.met (omega (arith, c.requires.found.some)) c.loop-links.links.owners c.loop-links.j t more in
    let size : length c.loop-links.links.owners ≡ node_count c.args.site.now.graph = c.loop-links.invariant.size in
    rw (c.turn-j.ensures.owners, c.turn-j.ensures.back) (record {
      turning = turned (net_of c.args.site.now) (length c.args.links.now.starts.items) (owner_in c.args.site.now c.args.links.now.owners) c.args.search.now.queue.items c.args.search.now.backs.items (length c.args.search.now.queue.items - 1) c.requires.found.met (omega (arith, c.requires.found.some))
          (owner_in c.args.site.now c.loop-links.links.owners) _ c.loop-links.j t more (owner_set c.args.site.now c.loop-links.links.owners _ _ (omega (arith, r.node)) r.chooser);
      size = length-set c.loop-links.links.owners _ _ ∙ size;
      starts = c.turn-j.ensures.starts ∙ c.loop-links.invariant.starts;
    })

pub set-requires : goal.set-requires
set-requires c =
    let t = c.loop-links.invariant.turning in
    let place : c.loop-links.j < length c.args.search.now.queue.items = t.place in
    let end : c.index-end.result.now ≡ get_or c.args.search.now.queue.items c.loop-links.j 0 = get_or_read c.args.search.now.queue.items c.loop-links.j c.index-end.result.now place c.index-end.ensures 0 in
    let inside : get_or c.args.search.now.queue.items c.loop-links.j 0 < node_count c.args.site.now.graph = live_inside c.args.site.now.graph (net_of c.args.site.now).label _ (c.requires.found.met.nodes _ (In-get_or c.args.search.now.queue.items c.loop-links.j 0 place)).1.live in
    omega (arith, c.loop-links.invariant.size)

pub returns-clause-linked : goal.returns-clause-linked
returns-clause-linked c =
    let t = c.loop-links.invariant.turning in
    let count : length c.args.search.now.backs.items ≡ length c.args.search.now.queue.items = c.requires.found.met.count in
    let place : c.loop-links.j < length c.args.search.now.queue.items = t.place in
    let back : c.index-in-loop-links.result.now ≡ get_or c.args.search.now.backs.items c.loop-links.j 0 = get_or_read c.args.search.now.backs.items c.loop-links.j c.index-in-loop-links.result.now (omega arith) c.index-in-loop-links.ensures 0 in
    let end : c.index-end.result.now ≡ get_or c.args.search.now.queue.items c.loop-links.j 0 = get_or_read c.args.search.now.queue.items c.loop-links.j c.index-end.result.now place c.index-end.ensures 0 in
    let none : get_or c.args.search.now.backs.items c.loop-links.j 0 ≡ 0 = (let m : c.index-in-loop-links.result.now ≤ 0 = c.loop-links-test.false in omega arith) in
    let and : 0 < c.args.site.now.node = (let a : 1 + length c.args.site.now.graph.kinds ≤ c.args.site.now.node = c.node-node.ensures.net.and.0 in omega arith) in
    let inside : get_or c.args.search.now.queue.items c.loop-links.j 0 < node_count c.args.site.now.graph = live_inside c.args.site.now.graph (net_of c.args.site.now).label _ (c.requires.found.met.nodes _ (In-get_or c.args.search.now.queue.items c.loop-links.j 0 place)).1.live in
    let size : length c.loop-links.links.owners ≡ node_count c.args.site.now.graph = c.loop-links.invariant.size in
    rw (c.set.ensures, end, c.node-node.ensures.is, c.loop-links.invariant.starts) (record {
      chosen = t.chosen;
      routed = finish (net_of c.args.site.now) (length c.args.links.now.starts.items) (owner_in c.args.site.now c.args.links.now.owners) c.args.search.now.queue.items c.args.search.now.backs.items (length c.args.search.now.queue.items - 1) c.requires.found.met (omega (arith, c.requires.found.some))
          c.requires.linked.chosen (owner_in c.args.site.now c.loop-links.links.owners) _ c.args.links.now.starts.items c.loop-links.j t none and refl c.node-node.ensures.net.sources c.requires.linked.routed c.requires.found.free
          (owner_set c.args.site.now c.loop-links.links.owners _ _ (omega arith) and);
      size = length-set c.loop-links.links.owners _ _ ∙ size;
    })

pub loop-links-smaller : goal.loop-links-smaller
loop-links-smaller c =
    let t = c.loop-links.invariant.turning in
    let count : length c.args.search.now.backs.items ≡ length c.args.search.now.queue.items = c.requires.found.met.count in
    let place : c.loop-links.j < length c.args.search.now.queue.items = t.place in
    let back : c.index-in-loop-links.result.now ≡ get_or c.args.search.now.backs.items c.loop-links.j 0 = get_or_read c.args.search.now.backs.items c.loop-links.j c.index-in-loop-links.result.now (omega arith) c.index-in-loop-links.ensures 0 in
    let r : CanTurn c.args.site.now c.loop-links.links.owners c.args.search.now.queue.items c.args.search.now.backs.items c.loop-links.j =
    can_turn c.args.site.now (length c.args.links.now.starts.items) (owner_in c.args.site.now c.args.links.now.owners) c.args.search.now.queue.items c.args.search.now.backs.items (length c.args.search.now.queue.items - 1) c.requires.found.met (omega (arith, c.requires.found.some))
    c.loop-links.links.owners c.loop-links.j t (let m : 0 < c.index-in-loop-links.result.now = c.loop-links-test.true in omega arith) in
    omega (arith, r.back, c.turn-j.ensures.back)
