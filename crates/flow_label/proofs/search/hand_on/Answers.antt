use Rattle.flow_label.proofs.Lemmas.{◌≡◌, ◌<◌, ◌^◌, ◌∙◌, sym, ap, refl, inl, arith, length, length-set, node_count, net_of, IsInner, inner_owner, queue_small, handed_by_node, found1, extends1, size1, small1, found2, extends2, size2, small2, found3, extends3, size3, searching3, lengths3}
use Rattle.flow_label.proofs.search.hand_on.Goals as goal

pub fan_ins-below-requires : goal.fan_ins-below-requires
fan_ins-below-requires c =
    let inner : IsInner (net_of c.args.site.now) c.owner-a.result = inner_owner c.args.site.now c.args.links.now.owners c.args.links.now.starts.items c.requires.linked c.node-node.ensures.net c.node-node.ensures.small c.args.search.now.seen c.args.search.now.queue.items c.args.search.now.backs.items c.args.search.now.passed c.args.search.now.stack.items c.args.place c.index.result.now c.owner-a.result c.requires.searching c.index.ensures c.owner-a.ensures (λ e. c.if-a-node.false (e ∙ sym c.node-node.ensures.is)) in
    inner.and

pub set-requires : goal.set-requires
set-requires c =
    let inner : IsInner (net_of c.args.site.now) c.owner-a.result = inner_owner c.args.site.now c.args.links.now.owners c.args.links.now.starts.items c.requires.linked c.node-node.ensures.net c.node-node.ensures.small c.args.search.now.seen c.args.search.now.queue.items c.args.search.now.backs.items c.args.search.now.passed c.args.search.now.stack.items c.args.place c.index.result.now c.owner-a.result c.requires.searching c.index.ensures c.owner-a.ensures (λ e. c.if-a-node.false (e ∙ sym c.node-node.ensures.is)) in
    let top : c.owner-a.result < node_count c.args.site.now.graph = inner.and.1 in
    let size : length c.args.search.now.passed ≡ node_count c.args.site.now.graph = c.requires.searching.passed_are.size in
    omega arith

pub index-requires : goal.index-requires
index-requires c =
    let inside : c.args.place < length c.args.search.now.queue.items = c.requires.searching.inside c.args.place (inl refl) in
    omega (arith, c.args.search.now.queue.ok.0)

pub overflow_add-place : goal.overflow_add-place
overflow_add-place c =
    let small : length c.args.search.now.queue.items < 2 ^ 30 = queue_small c.args.site.now c.args.links.now.owners c.args.links.now.starts.items c.requires.linked c.args.search.now.queue.items c.args.search.now.backs.items c.requires.searching.met c.node-node.ensures.net c.node-node.ensures.small in
    let inside : c.args.place < length c.args.search.now.queue.items = c.requires.searching.inside c.args.place (inl refl) in
    omega arith

pub overflow_add-place-2 : goal.overflow_add-place-2
overflow_add-place-2 c =
    let small : length c.args.search.now.queue.items < 2 ^ 30 = queue_small c.args.site.now c.args.links.now.owners c.args.links.now.starts.items c.requires.linked c.args.search.now.queue.items c.args.search.now.backs.items c.requires.searching.met c.node-node.ensures.net c.node-node.ensures.small in
    let inside : c.args.place < length c.args.search.now.queue.items = c.requires.searching.inside c.args.place (inl refl) in
    omega arith

pub overflow_add-place-3 : goal.overflow_add-place-3
overflow_add-place-3 c =
    let small : length c.args.search.now.queue.items < 2 ^ 30 = queue_small c.args.site.now c.args.links.now.owners c.args.links.now.starts.items c.requires.linked c.args.search.now.queue.items c.args.search.now.backs.items c.requires.searching.met c.node-node.ensures.net c.node-node.ensures.small in
    let inside : c.args.place < length c.args.search.now.queue.items = c.requires.searching.inside c.args.place (inl refl) in
    omega arith

pub meet-requires-clause-node : goal.meet-requires-clause-node
meet-requires-clause-node c =
    let inner : IsInner (net_of c.args.site.now) c.owner-a.result = inner_owner c.args.site.now c.args.links.now.owners c.args.links.now.starts.items c.requires.linked c.node-node.ensures.net c.node-node.ensures.small c.args.search.now.seen c.args.search.now.queue.items c.args.search.now.backs.items c.args.search.now.passed c.args.search.now.stack.items c.args.place c.index.result.now c.owner-a.result c.requires.searching c.index.ensures c.owner-a.ensures (λ e. c.if-a-node.false (e ∙ sym c.node-node.ensures.is)) in
    let top : c.owner-a.result < node_count c.args.site.now.graph = inner.and.1 in
    top

pub meet-requires-clause-room : goal.meet-requires-clause-room
meet-requires-clause-room c =
    let inner : IsInner (net_of c.args.site.now) c.owner-a.result = inner_owner c.args.site.now c.args.links.now.owners c.args.links.now.starts.items c.requires.linked c.node-node.ensures.net c.node-node.ensures.small c.args.search.now.seen c.args.search.now.queue.items c.args.search.now.backs.items c.args.search.now.passed c.args.search.now.stack.items c.args.place c.index.result.now c.owner-a.result c.requires.searching c.index.ensures c.owner-a.ensures (λ e. c.if-a-node.false (e ∙ sym c.node-node.ensures.is)) in
    let top : c.owner-a.result < node_count c.args.site.now.graph = inner.and.1 in
    let size : length c.args.search.now.seen ≡ node_count c.args.site.now.graph = c.requires.searching.size in
    omega arith

pub meet-requires-clause-small : goal.meet-requires-clause-small
meet-requires-clause-small c =
    let small : length c.args.search.now.queue.items < 2 ^ 30 = queue_small c.args.site.now c.args.links.now.owners c.args.links.now.starts.items c.requires.linked c.args.search.now.queue.items c.args.search.now.backs.items c.requires.searching.met c.node-node.ensures.net c.node-node.ensures.small in
    small

pub meet-requires-2-clause-node : goal.meet-requires-2-clause-node
meet-requires-2-clause-node c =
    let inner : IsInner (net_of c.args.site.now) c.owner-a.result = inner_owner c.args.site.now c.args.links.now.owners c.args.links.now.starts.items c.requires.linked c.node-node.ensures.net c.node-node.ensures.small c.args.search.now.seen c.args.search.now.queue.items c.args.search.now.backs.items c.args.search.now.passed c.args.search.now.stack.items c.args.place c.index.result.now c.owner-a.result c.requires.searching c.index.ensures c.owner-a.ensures (λ e. c.if-a-node.false (e ∙ sym c.node-node.ensures.is)) in
    let top : c.owner-a.result < node_count c.args.site.now.graph = inner.and.1 in
    let below : c.fan_ins-below.result.far < c.owner-a.result = c.fan_ins-below.ensures.below in
    omega arith

pub meet-requires-2-clause-room : goal.meet-requires-2-clause-room
meet-requires-2-clause-room c =
    let inner : IsInner (net_of c.args.site.now) c.owner-a.result = inner_owner c.args.site.now c.args.links.now.owners c.args.links.now.starts.items c.requires.linked c.node-node.ensures.net c.node-node.ensures.small c.args.search.now.seen c.args.search.now.queue.items c.args.search.now.backs.items c.args.search.now.passed c.args.search.now.stack.items c.args.place c.index.result.now c.owner-a.result c.requires.searching c.index.ensures c.owner-a.ensures (λ e. c.if-a-node.false (e ∙ sym c.node-node.ensures.is)) in
    let top : c.owner-a.result < node_count c.args.site.now.graph = inner.and.1 in
    let below : c.fan_ins-below.result.far < c.owner-a.result = c.fan_ins-below.ensures.below in
    let size : length c.args.search.now.seen ≡ node_count c.args.site.now.graph = c.requires.searching.size in
    let one : length c.meet.new.search.seen ≡ length c.args.search.now.seen = size1 c.args.site.now c.args.links.now.owners c.args.links.now.starts.items c.requires.linked c.node-node.ensures.net c.node-node.ensures.small c.args.search.now.seen c.args.search.now.queue.items c.args.search.now.backs.items c.args.search.now.passed c.args.search.now.stack.items c.args.place c.index.result.now c.owner-a.result c.requires.searching c.index.ensures c.owner-a.ensures (λ e. c.if-a-node.false (e ∙ sym c.node-node.ensures.is)) c.in_ok-meet.field-0 c.meet.new.search.seen c.meet.new.search.queue.items c.meet.new.search.backs.items c.meet.new.search.stack.items c.meet.new.search.passed c.in_ok-meet.ensures.met (c.in_ok-meet.ensures.passed ∙ c.set.ensures) in
    omega arith

pub meet-requires-2-clause-small : goal.meet-requires-2-clause-small
meet-requires-2-clause-small c =
    small1 c.args.site.now c.args.links.now.owners c.args.links.now.starts.items c.requires.linked c.node-node.ensures.net c.node-node.ensures.small c.args.search.now.seen c.args.search.now.queue.items c.args.search.now.backs.items c.args.search.now.passed c.args.search.now.stack.items c.args.place c.index.result.now c.owner-a.result c.requires.searching c.index.ensures c.owner-a.ensures (λ e. c.if-a-node.false (e ∙ sym c.node-node.ensures.is)) c.in_ok-meet.field-0 c.meet.new.search.seen c.meet.new.search.queue.items c.meet.new.search.backs.items c.meet.new.search.stack.items c.meet.new.search.passed c.in_ok-meet.ensures.met (c.in_ok-meet.ensures.passed ∙ c.set.ensures) c.if-branch.false c.fan_ins-below.result.far c.fan_ins-below.ensures.far

pub meet-requires-3-clause-node : goal.meet-requires-3-clause-node
meet-requires-3-clause-node c =
    let inner : IsInner (net_of c.args.site.now) c.owner-a.result = inner_owner c.args.site.now c.args.links.now.owners c.args.links.now.starts.items c.requires.linked c.node-node.ensures.net c.node-node.ensures.small c.args.search.now.seen c.args.search.now.queue.items c.args.search.now.backs.items c.args.search.now.passed c.args.search.now.stack.items c.args.place c.index.result.now c.owner-a.result c.requires.searching c.index.ensures c.owner-a.ensures (λ e. c.if-a-node.false (e ∙ sym c.node-node.ensures.is)) in
    let top : c.owner-a.result < node_count c.args.site.now.graph = inner.and.1 in
    let below : c.fan_ins-below.result.near < c.owner-a.result = c.fan_ins-below.ensures.near_below in
    omega arith

pub meet-requires-3-clause-room : goal.meet-requires-3-clause-room
meet-requires-3-clause-room c =
    let inner : IsInner (net_of c.args.site.now) c.owner-a.result = inner_owner c.args.site.now c.args.links.now.owners c.args.links.now.starts.items c.requires.linked c.node-node.ensures.net c.node-node.ensures.small c.args.search.now.seen c.args.search.now.queue.items c.args.search.now.backs.items c.args.search.now.passed c.args.search.now.stack.items c.args.place c.index.result.now c.owner-a.result c.requires.searching c.index.ensures c.owner-a.ensures (λ e. c.if-a-node.false (e ∙ sym c.node-node.ensures.is)) in
    let top : c.owner-a.result < node_count c.args.site.now.graph = inner.and.1 in
    let below : c.fan_ins-below.result.near < c.owner-a.result = c.fan_ins-below.ensures.near_below in
    let size : length c.args.search.now.seen ≡ node_count c.args.site.now.graph = c.requires.searching.size in
    let two : length c.meet-2.new.search.seen ≡ length c.args.search.now.seen = size2 c.args.site.now c.args.links.now.owners c.args.links.now.starts.items c.requires.linked c.node-node.ensures.net c.node-node.ensures.small c.args.search.now.seen c.args.search.now.queue.items c.args.search.now.backs.items c.args.search.now.passed c.args.search.now.stack.items c.args.place c.index.result.now c.owner-a.result c.requires.searching c.index.ensures c.owner-a.ensures (λ e. c.if-a-node.false (e ∙ sym c.node-node.ensures.is)) c.in_ok-meet.field-0 c.meet.new.search.seen c.meet.new.search.queue.items c.meet.new.search.backs.items c.meet.new.search.stack.items c.meet.new.search.passed c.in_ok-meet.ensures.met (c.in_ok-meet.ensures.passed ∙ c.set.ensures) c.if-branch.false c.fan_ins-below.result.far c.fan_ins-below.ensures.far c.in_ok-meet-2.field-0 c.meet-2.new.search.seen c.meet-2.new.search.queue.items c.meet-2.new.search.backs.items c.meet-2.new.search.stack.items c.meet-2.new.search.passed c.in_ok-meet-2.ensures.met c.in_ok-meet-2.ensures.passed in
    omega arith

pub meet-requires-3-clause-small : goal.meet-requires-3-clause-small
meet-requires-3-clause-small c =
    small2 c.args.site.now c.args.links.now.owners c.args.links.now.starts.items c.requires.linked c.node-node.ensures.net c.node-node.ensures.small c.args.search.now.seen c.args.search.now.queue.items c.args.search.now.backs.items c.args.search.now.passed c.args.search.now.stack.items c.args.place c.index.result.now c.owner-a.result c.requires.searching c.index.ensures c.owner-a.ensures (λ e. c.if-a-node.false (e ∙ sym c.node-node.ensures.is)) c.in_ok-meet.field-0 c.meet.new.search.seen c.meet.new.search.queue.items c.meet.new.search.backs.items c.meet.new.search.stack.items c.meet.new.search.passed c.in_ok-meet.ensures.met (c.in_ok-meet.ensures.passed ∙ c.set.ensures) c.if-branch.false c.fan_ins-below.result.far c.fan_ins-below.ensures.far c.in_ok-meet-2.field-0 c.meet-2.new.search.seen c.meet-2.new.search.queue.items c.meet-2.new.search.backs.items c.meet-2.new.search.stack.items c.meet-2.new.search.passed c.in_ok-meet-2.ensures.met c.in_ok-meet-2.ensures.passed c.if-branch-2.false c.fan_ins-below.result.near c.fan_ins-below.ensures.near

pub returns-then-a-node-clause-on : goal.returns-then-a-node-clause-on
returns-then-a-node-clause-on c =
    λ _. handed_by_node c.args.site.now c.args.links.now.owners c.args.links.now.starts.items c.requires.linked c.args.search.now.seen c.args.search.now.queue.items c.args.search.now.backs.items c.args.search.now.passed c.args.search.now.stack.items c.args.place c.index.result.now c.owner-a.result c.requires.searching c.index.ensures c.owner-a.ensures (c.if-a-node.true ∙ c.node-node.ensures.is)

pub returns-then-branch-clause-ended : goal.returns-then-branch-clause-ended
returns-then-branch-clause-ended c =
    λ _. found1 c.args.site.now c.args.links.now.owners c.args.links.now.starts.items c.requires.linked c.node-node.ensures.net c.node-node.ensures.small c.args.search.now.seen c.args.search.now.queue.items c.args.search.now.backs.items c.args.search.now.passed c.args.search.now.stack.items c.args.place c.index.result.now c.owner-a.result c.requires.searching c.index.ensures c.owner-a.ensures (λ e. c.if-a-node.false (e ∙ sym c.node-node.ensures.is)) c.in_ok-meet.field-0 c.meet.new.search.seen c.meet.new.search.queue.items c.meet.new.search.backs.items c.meet.new.search.stack.items c.meet.new.search.passed c.in_ok-meet.ensures.met (c.in_ok-meet.ensures.passed ∙ c.set.ensures) c.if-branch.true

pub returns-then-branch-clause-kept : goal.returns-then-branch-clause-kept
returns-then-branch-clause-kept c =
    (extends1 c.args.site.now c.args.links.now.owners c.args.links.now.starts.items c.requires.linked c.node-node.ensures.net c.node-node.ensures.small c.args.search.now.seen c.args.search.now.queue.items c.args.search.now.backs.items c.args.search.now.passed c.args.search.now.stack.items c.args.place c.index.result.now c.owner-a.result c.requires.searching c.index.ensures c.owner-a.ensures (λ e. c.if-a-node.false (e ∙ sym c.node-node.ensures.is)) c.in_ok-meet.field-0 c.meet.new.search.seen c.meet.new.search.queue.items c.meet.new.search.backs.items c.meet.new.search.stack.items c.meet.new.search.passed c.in_ok-meet.ensures.met (c.in_ok-meet.ensures.passed ∙ c.set.ensures)).kept

pub returns-then-branch-clause-marks : goal.returns-then-branch-clause-marks
returns-then-branch-clause-marks c = record {
  room = ap length c.in_ok-meet.ensures.passed ∙ (ap length c.set.ensures ∙ length-set c.args.search.now.passed c.owner-a.result 1);
  size = size1 c.args.site.now c.args.links.now.owners c.args.links.now.starts.items c.requires.linked c.node-node.ensures.net c.node-node.ensures.small c.args.search.now.seen c.args.search.now.queue.items c.args.search.now.backs.items c.args.search.now.passed c.args.search.now.stack.items c.args.place c.index.result.now c.owner-a.result c.requires.searching c.index.ensures c.owner-a.ensures (λ e. c.if-a-node.false (e ∙ sym c.node-node.ensures.is)) c.in_ok-meet.field-0 c.meet.new.search.seen c.meet.new.search.queue.items c.meet.new.search.backs.items c.meet.new.search.stack.items c.meet.new.search.passed c.in_ok-meet.ensures.met (c.in_ok-meet.ensures.passed ∙ c.set.ensures);
}

pub returns-then-branch-2-clause-ended : goal.returns-then-branch-2-clause-ended
returns-then-branch-2-clause-ended c =
    λ _. found2 c.args.site.now c.args.links.now.owners c.args.links.now.starts.items c.requires.linked c.node-node.ensures.net c.node-node.ensures.small c.args.search.now.seen c.args.search.now.queue.items c.args.search.now.backs.items c.args.search.now.passed c.args.search.now.stack.items c.args.place c.index.result.now c.owner-a.result c.requires.searching c.index.ensures c.owner-a.ensures (λ e. c.if-a-node.false (e ∙ sym c.node-node.ensures.is)) c.in_ok-meet.field-0 c.meet.new.search.seen c.meet.new.search.queue.items c.meet.new.search.backs.items c.meet.new.search.stack.items c.meet.new.search.passed c.in_ok-meet.ensures.met (c.in_ok-meet.ensures.passed ∙ c.set.ensures) c.if-branch.false c.fan_ins-below.result.far c.fan_ins-below.ensures.far c.in_ok-meet-2.field-0 c.meet-2.new.search.seen c.meet-2.new.search.queue.items c.meet-2.new.search.backs.items c.meet-2.new.search.stack.items c.meet-2.new.search.passed c.in_ok-meet-2.ensures.met c.in_ok-meet-2.ensures.passed c.if-branch-2.true

pub returns-then-branch-2-clause-kept : goal.returns-then-branch-2-clause-kept
returns-then-branch-2-clause-kept c =
    (extends2 c.args.site.now c.args.links.now.owners c.args.links.now.starts.items c.requires.linked c.node-node.ensures.net c.node-node.ensures.small c.args.search.now.seen c.args.search.now.queue.items c.args.search.now.backs.items c.args.search.now.passed c.args.search.now.stack.items c.args.place c.index.result.now c.owner-a.result c.requires.searching c.index.ensures c.owner-a.ensures (λ e. c.if-a-node.false (e ∙ sym c.node-node.ensures.is)) c.in_ok-meet.field-0 c.meet.new.search.seen c.meet.new.search.queue.items c.meet.new.search.backs.items c.meet.new.search.stack.items c.meet.new.search.passed c.in_ok-meet.ensures.met (c.in_ok-meet.ensures.passed ∙ c.set.ensures) c.if-branch.false c.fan_ins-below.result.far c.fan_ins-below.ensures.far c.in_ok-meet-2.field-0 c.meet-2.new.search.seen c.meet-2.new.search.queue.items c.meet-2.new.search.backs.items c.meet-2.new.search.stack.items c.meet-2.new.search.passed c.in_ok-meet-2.ensures.met c.in_ok-meet-2.ensures.passed).kept

pub returns-then-branch-2-clause-marks : goal.returns-then-branch-2-clause-marks
returns-then-branch-2-clause-marks c = record {
  room = ap length c.in_ok-meet-2.ensures.passed ∙ (ap length c.in_ok-meet.ensures.passed ∙ (ap length c.set.ensures ∙ length-set c.args.search.now.passed c.owner-a.result 1));
  size = size2 c.args.site.now c.args.links.now.owners c.args.links.now.starts.items c.requires.linked c.node-node.ensures.net c.node-node.ensures.small c.args.search.now.seen c.args.search.now.queue.items c.args.search.now.backs.items c.args.search.now.passed c.args.search.now.stack.items c.args.place c.index.result.now c.owner-a.result c.requires.searching c.index.ensures c.owner-a.ensures (λ e. c.if-a-node.false (e ∙ sym c.node-node.ensures.is)) c.in_ok-meet.field-0 c.meet.new.search.seen c.meet.new.search.queue.items c.meet.new.search.backs.items c.meet.new.search.stack.items c.meet.new.search.passed c.in_ok-meet.ensures.met (c.in_ok-meet.ensures.passed ∙ c.set.ensures) c.if-branch.false c.fan_ins-below.result.far c.fan_ins-below.ensures.far c.in_ok-meet-2.field-0 c.meet-2.new.search.seen c.meet-2.new.search.queue.items c.meet-2.new.search.backs.items c.meet-2.new.search.stack.items c.meet-2.new.search.passed c.in_ok-meet-2.ensures.met c.in_ok-meet-2.ensures.passed;
}

pub returns-clause-on : goal.returns-clause-on
returns-clause-on c =
    searching3 c.args.site.now c.args.links.now.owners c.args.links.now.starts.items c.requires.linked c.node-node.ensures.net c.node-node.ensures.small c.args.search.now.seen c.args.search.now.queue.items c.args.search.now.backs.items c.args.search.now.passed c.args.search.now.stack.items c.args.place c.index.result.now c.owner-a.result c.requires.searching c.index.ensures c.owner-a.ensures (λ e. c.if-a-node.false (e ∙ sym c.node-node.ensures.is)) c.in_ok-meet.field-0 c.meet.new.search.seen c.meet.new.search.queue.items c.meet.new.search.backs.items c.meet.new.search.stack.items c.meet.new.search.passed c.in_ok-meet.ensures.met (c.in_ok-meet.ensures.passed ∙ c.set.ensures) c.if-branch.false c.fan_ins-below.result.far c.fan_ins-below.ensures.far c.in_ok-meet-2.field-0 c.meet-2.new.search.seen c.meet-2.new.search.queue.items c.meet-2.new.search.backs.items c.meet-2.new.search.stack.items c.meet-2.new.search.passed c.in_ok-meet-2.ensures.met c.in_ok-meet-2.ensures.passed c.if-branch-2.false c.fan_ins-below.result.near c.fan_ins-below.ensures.near c.fan_ins-below.ensures.all c.in_ok-ends.ends c.meet-3.new.search.seen c.meet-3.new.search.queue.items c.meet-3.new.search.backs.items c.meet-3.new.search.stack.items c.meet-3.new.search.passed c.in_ok-ends.ensures.met c.in_ok-ends.ensures.passed

pub returns-clause-ended : goal.returns-clause-ended
returns-clause-ended c =
    found3 c.args.site.now c.args.links.now.owners c.args.links.now.starts.items c.requires.linked c.node-node.ensures.net c.node-node.ensures.small c.args.search.now.seen c.args.search.now.queue.items c.args.search.now.backs.items c.args.search.now.passed c.args.search.now.stack.items c.args.place c.index.result.now c.owner-a.result c.requires.searching c.index.ensures c.owner-a.ensures (λ e. c.if-a-node.false (e ∙ sym c.node-node.ensures.is)) c.in_ok-meet.field-0 c.meet.new.search.seen c.meet.new.search.queue.items c.meet.new.search.backs.items c.meet.new.search.stack.items c.meet.new.search.passed c.in_ok-meet.ensures.met (c.in_ok-meet.ensures.passed ∙ c.set.ensures) c.if-branch.false c.fan_ins-below.result.far c.fan_ins-below.ensures.far c.in_ok-meet-2.field-0 c.meet-2.new.search.seen c.meet-2.new.search.queue.items c.meet-2.new.search.backs.items c.meet-2.new.search.stack.items c.meet-2.new.search.passed c.in_ok-meet-2.ensures.met c.in_ok-meet-2.ensures.passed c.if-branch-2.false c.fan_ins-below.result.near c.fan_ins-below.ensures.near c.fan_ins-below.ensures.all c.in_ok-ends.ends c.meet-3.new.search.seen c.meet-3.new.search.queue.items c.meet-3.new.search.backs.items c.meet-3.new.search.stack.items c.meet-3.new.search.passed c.in_ok-ends.ensures.met c.in_ok-ends.ensures.passed

pub returns-clause-kept : goal.returns-clause-kept
returns-clause-kept c =
    (extends3 c.args.site.now c.args.links.now.owners c.args.links.now.starts.items c.requires.linked c.node-node.ensures.net c.node-node.ensures.small c.args.search.now.seen c.args.search.now.queue.items c.args.search.now.backs.items c.args.search.now.passed c.args.search.now.stack.items c.args.place c.index.result.now c.owner-a.result c.requires.searching c.index.ensures c.owner-a.ensures (λ e. c.if-a-node.false (e ∙ sym c.node-node.ensures.is)) c.in_ok-meet.field-0 c.meet.new.search.seen c.meet.new.search.queue.items c.meet.new.search.backs.items c.meet.new.search.stack.items c.meet.new.search.passed c.in_ok-meet.ensures.met (c.in_ok-meet.ensures.passed ∙ c.set.ensures) c.if-branch.false c.fan_ins-below.result.far c.fan_ins-below.ensures.far c.in_ok-meet-2.field-0 c.meet-2.new.search.seen c.meet-2.new.search.queue.items c.meet-2.new.search.backs.items c.meet-2.new.search.stack.items c.meet-2.new.search.passed c.in_ok-meet-2.ensures.met c.in_ok-meet-2.ensures.passed c.if-branch-2.false c.fan_ins-below.result.near c.fan_ins-below.ensures.near c.fan_ins-below.ensures.all c.in_ok-ends.ends c.meet-3.new.search.seen c.meet-3.new.search.queue.items c.meet-3.new.search.backs.items c.meet-3.new.search.stack.items c.meet-3.new.search.passed c.in_ok-ends.ensures.met c.in_ok-ends.ensures.passed).kept

pub returns-clause-lengths : goal.returns-clause-lengths
returns-clause-lengths c =
    lengths3 c.args.site.now c.args.links.now.owners c.args.links.now.starts.items c.requires.linked c.node-node.ensures.net c.node-node.ensures.small c.args.search.now.seen c.args.search.now.queue.items c.args.search.now.backs.items c.args.search.now.passed c.args.search.now.stack.items c.args.place c.index.result.now c.owner-a.result c.requires.searching c.index.ensures c.owner-a.ensures (λ e. c.if-a-node.false (e ∙ sym c.node-node.ensures.is)) c.in_ok-meet.field-0 c.meet.new.search.seen c.meet.new.search.queue.items c.meet.new.search.backs.items c.meet.new.search.stack.items c.meet.new.search.passed c.in_ok-meet.ensures.met (c.in_ok-meet.ensures.passed ∙ c.set.ensures) c.if-branch.false c.fan_ins-below.result.far c.fan_ins-below.ensures.far c.in_ok-meet-2.field-0 c.meet-2.new.search.seen c.meet-2.new.search.queue.items c.meet-2.new.search.backs.items c.meet-2.new.search.stack.items c.meet-2.new.search.passed c.in_ok-meet-2.ensures.met c.in_ok-meet-2.ensures.passed c.if-branch-2.false c.fan_ins-below.result.near c.fan_ins-below.ensures.near c.fan_ins-below.ensures.all c.in_ok-ends.ends c.meet-3.new.search.seen c.meet-3.new.search.queue.items c.meet-3.new.search.backs.items c.meet-3.new.search.stack.items c.meet-3.new.search.passed c.in_ok-ends.ensures.met c.in_ok-ends.ensures.passed

pub returns-clause-marks : goal.returns-clause-marks
returns-clause-marks c = record {
  room = ap length c.in_ok-ends.ensures.passed ∙ (ap length c.in_ok-meet-2.ensures.passed ∙ (ap length c.in_ok-meet.ensures.passed ∙ (ap length c.set.ensures ∙ length-set c.args.search.now.passed c.owner-a.result 1)));
  size = size3 c.args.site.now c.args.links.now.owners c.args.links.now.starts.items c.requires.linked c.node-node.ensures.net c.node-node.ensures.small c.args.search.now.seen c.args.search.now.queue.items c.args.search.now.backs.items c.args.search.now.passed c.args.search.now.stack.items c.args.place c.index.result.now c.owner-a.result c.requires.searching c.index.ensures c.owner-a.ensures (λ e. c.if-a-node.false (e ∙ sym c.node-node.ensures.is)) c.in_ok-meet.field-0 c.meet.new.search.seen c.meet.new.search.queue.items c.meet.new.search.backs.items c.meet.new.search.stack.items c.meet.new.search.passed c.in_ok-meet.ensures.met (c.in_ok-meet.ensures.passed ∙ c.set.ensures) c.if-branch.false c.fan_ins-below.result.far c.fan_ins-below.ensures.far c.in_ok-meet-2.field-0 c.meet-2.new.search.seen c.meet-2.new.search.queue.items c.meet-2.new.search.backs.items c.meet-2.new.search.stack.items c.meet-2.new.search.passed c.in_ok-meet-2.ensures.met c.in_ok-meet-2.ensures.passed c.if-branch-2.false c.fan_ins-below.result.near c.fan_ins-below.ensures.near c.fan_ins-below.ensures.all c.in_ok-ends.ends c.meet-3.new.search.seen c.meet-3.new.search.queue.items c.meet-3.new.search.backs.items c.meet-3.new.search.stack.items c.meet-3.new.search.passed c.in_ok-ends.ensures.met c.in_ok-ends.ensures.passed;
}
