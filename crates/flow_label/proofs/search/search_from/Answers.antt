use Rattle.flow_label.proofs.Lemmas.{◌≡◌, ◌<◌, ◌∙◌, ◌∷◌, [], ap, sym, subst, arith, length, length-append, node_count, net_of, owner_in, IsSearching, met_size, popped, queue_small, none_left, end_found, end_met, end_there, end_kept, search_smaller}
use Rattle.flow_label.proofs.search.search_from.Goals as goal

pub meet-requires-clause-node : goal.meet-requires-clause-node
meet-requires-clause-node c =
    let below : c.args.m < c.args.site.now.node = (c.node-node.ensures.net.met c.args.m c.requires.end.met).1 in
    let top : c.args.site.now.node < node_count c.args.site.now.graph = c.node-node.ensures.net.and.1 in
    omega arith

pub meet-requires-clause-room : goal.meet-requires-clause-room
meet-requires-clause-room c =
    let below : c.args.m < c.args.site.now.node = (c.node-node.ensures.net.met c.args.m c.requires.end.met).1 in
    let top : c.args.site.now.node < node_count c.args.site.now.graph = c.node-node.ensures.net.and.1 in
    let size : length c.args.search.now.seen ≡ node_count c.args.site.now.graph = c.requires.searching.size in
    omega arith

pub meet-requires-clause-small : goal.meet-requires-clause-small
meet-requires-clause-small c =
    queue_small c.args.site.now c.args.links.now.owners c.args.links.now.starts.items c.requires.linked c.args.search.now.queue.items c.args.search.now.backs.items c.requires.searching.met c.node-node.ensures.net c.node-node.ensures.small

pub returns-then-branch-clause-ended : goal.returns-then-branch-clause-ended
returns-then-branch-clause-ended c =
    λ _. end_found c.args.site.now c.args.links.now.owners c.args.links.now.starts.items c.requires.linked c.node-node.ensures.net c.args.search.now.seen c.args.search.now.queue.items c.args.search.now.backs.items c.args.search.now.passed c.args.search.now.stack.items c.args.m c.requires.searching c.requires.none c.requires.end c.in_ok-meet.field-0 c.meet.new.search.seen c.meet.new.search.queue.items c.meet.new.search.backs.items c.meet.new.search.stack.items c.in_ok-meet.ensures.met c.if-branch.true

pub returns-then-branch-clause-kept : goal.returns-then-branch-clause-kept
returns-then-branch-clause-kept c =
    end_kept c.args.site.now c.args.links.now.owners c.args.links.now.starts.items c.requires.linked c.node-node.ensures.net c.args.search.now.seen c.args.search.now.queue.items c.args.search.now.backs.items c.args.search.now.passed c.args.search.now.stack.items c.args.m c.requires.searching c.requires.none c.requires.end c.in_ok-meet.field-0 c.meet.new.search.seen c.meet.new.search.queue.items c.meet.new.search.backs.items c.meet.new.search.stack.items c.in_ok-meet.ensures.met

pub returns-then-branch-clause-marks : goal.returns-then-branch-clause-marks
returns-then-branch-clause-marks c = record {
  room = ap length c.in_ok-meet.ensures.passed;
  size = met_size (net_of c.args.site.now) (owner_in c.args.site.now c.args.links.now.owners) c.args.m 0 c.in_ok-meet.field-0 c.args.search.now.seen c.args.search.now.queue.items c.args.search.now.backs.items c.args.search.now.stack.items c.meet.new.search.seen c.meet.new.search.queue.items c.meet.new.search.backs.items c.meet.new.search.stack.items c.in_ok-meet.ensures.met;
}

pub loop-place-init : goal.loop-place-init
loop-place-init c =
    record {
      searching = end_met c.args.site.now c.args.links.now.owners c.args.links.now.starts.items c.requires.linked c.node-node.ensures.net c.args.search.now.seen c.args.search.now.queue.items c.args.search.now.backs.items c.args.search.now.passed c.args.search.now.stack.items c.args.m c.requires.searching c.requires.none c.requires.end c.in_ok-meet.field-0 c.meet.new.search.seen c.meet.new.search.queue.items c.meet.new.search.backs.items c.meet.new.search.stack.items c.in_ok-meet.ensures.met c.meet.new.search.passed c.in_ok-meet.ensures.passed c.if-branch.false;
      there = end_there c.args.site.now c.args.links.now.owners c.args.links.now.starts.items c.requires.linked c.node-node.ensures.net c.args.search.now.seen c.args.search.now.queue.items c.args.search.now.backs.items c.args.search.now.passed c.args.search.now.stack.items c.args.m c.requires.searching c.requires.none c.requires.end c.in_ok-meet.field-0 c.meet.new.search.seen c.meet.new.search.queue.items c.meet.new.search.backs.items c.meet.new.search.stack.items c.in_ok-meet.ensures.met c.if-branch.false;
      kept = end_kept c.args.site.now c.args.links.now.owners c.args.links.now.starts.items c.requires.linked c.node-node.ensures.net c.args.search.now.seen c.args.search.now.queue.items c.args.search.now.backs.items c.args.search.now.passed c.args.search.now.stack.items c.args.m c.requires.searching c.requires.none c.requires.end c.in_ok-meet.field-0 c.meet.new.search.seen c.meet.new.search.queue.items c.meet.new.search.backs.items c.meet.new.search.stack.items c.in_ok-meet.ensures.met;
      marks = record {
        room = ap length c.in_ok-meet.ensures.passed;
        size = met_size (net_of c.args.site.now) (owner_in c.args.site.now c.args.links.now.owners) c.args.m 0 c.in_ok-meet.field-0 c.args.search.now.seen c.args.search.now.queue.items c.args.search.now.backs.items c.args.search.now.stack.items c.meet.new.search.seen c.meet.new.search.queue.items c.meet.new.search.backs.items c.meet.new.search.stack.items c.in_ok-meet.ensures.met;
      };
    }

pub hand_on-requires-clause-searching : goal.hand_on-requires-clause-searching
hand_on-requires-clause-searching c =
    popped (net_of c.args.site.now) (owner_in c.args.site.now c.args.links.now.owners) c.loop-place.search.seen c.loop-place.search.queue.items c.loop-place.search.backs.items c.loop-place.search.passed c.loop-place.search.stack.items c.pop.new.self.items c.in-Some.place c.loop-place.invariant.searching c.in-Some.ensures.items

pub returns-then-branch-2-clause-ended : goal.returns-then-branch-2-clause-ended
returns-then-branch-2-clause-ended c =
    λ _. c.in_ok-hand_on.ensures.ended c.if-branch-2.true

pub returns-then-branch-2-clause-kept : goal.returns-then-branch-2-clause-kept
returns-then-branch-2-clause-kept c =
    λ u i. c.in_ok-hand_on.ensures.kept u (c.loop-place.invariant.kept u i)

pub returns-then-branch-2-clause-marks : goal.returns-then-branch-2-clause-marks
returns-then-branch-2-clause-marks c = record { room = c.in_ok-hand_on.ensures.marks.room ∙ c.loop-place.invariant.marks.room; size = c.in_ok-hand_on.ensures.marks.size ∙ c.loop-place.invariant.marks.size }

pub loop-place-preserved : goal.loop-place-preserved
loop-place-preserved c =
    record {
      searching = c.in_ok-hand_on.ensures.on c.if-branch-2.false;
      there = λ reached. c.in_ok-hand_on.ensures.kept c.args.m (c.loop-place.invariant.there reached);
      kept = λ u i. c.in_ok-hand_on.ensures.kept u (c.loop-place.invariant.kept u i);
      marks = record { room = c.in_ok-hand_on.ensures.marks.room ∙ c.loop-place.invariant.marks.room; size = c.in_ok-hand_on.ensures.marks.size ∙ c.loop-place.invariant.marks.size };
    }

pub loop-place-smaller : goal.loop-place-smaller
loop-place-smaller c =
    search_smaller c.args.site.now c.args.links.now.owners c.args.links.now.starts.items c.requires.linked c.node-node.ensures.net c.loop-place.search.queue.items c.loop-place.search.backs.items c.hand_on.new.search.queue.items c.hand_on.new.search.backs.items (length c.loop-place.search.stack.items) (length c.pop.new.self.items) (length c.hand_on.new.search.stack.items)
    c.loop-place.invariant.searching.met (c.in_ok-hand_on.ensures.on c.if-branch-2.false).met c.in_ok-hand_on.ensures.kept (omega (arith, length-append c.pop.new.self.items (c.in-Some.place ∷ []), ap length c.in-Some.ensures.items)) (c.in_ok-hand_on.ensures.lengths c.if-branch-2.false)

pub returns-clause-on : goal.returns-clause-on
returns-clause-on c =
    λ _. subst (λ x. IsSearching (net_of c.args.site.now) (owner_in c.args.site.now c.args.links.now.owners) c.loop-place.search.seen c.loop-place.search.queue.items c.loop-place.search.backs.items c.loop-place.search.passed x) (none_left c.loop-place.search.stack.items (sym c.loop-place.search.stack.ok.0 ∙ c.in_default.ensures.cases.0)) c.loop-place.invariant.searching
