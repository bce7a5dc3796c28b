use Rattle.bit_fun.proofs.Lemmas.{◌/◌, ◌^◌, length, reverse, refl, IsConeOrder, AreMarked, AreBitsMade, with_marks, in_reversed, first_made, bits_on, walked_order, order_inside, order_marked, first_room, rest_room, table_within}
use Rattle.bit_fun.proofs.template_functions.push_table.Goals as goal

pub make_bit-requires-clause-nodes : goal.make_bit-requires-clause-nodes
make_bit-requires-clause-nodes c = λ n i.
    let cone : IsConeOrder c.args.graph.now c.args.table.now.leaves c.args.kept.now (c.args.table.now.lit.0 / 2) (reverse c.order-order.result.now) =
    walked_order c.args.graph.now c.args.table.now.leaves c.leaves-leaves.result.now c.args.kept.now (c.args.table.now.lit.0 / 2) c.walk_cone.new.walk.order c.order-order.result.now c.leaves-leaves.ensures c.order-order.ensures c.in_ok-walk_cone.ensures.order in
    (cone.inner n (in_reversed c.order-order.result.now n i)).and

pub make_bit-requires-clause-room : goal.make_bit-requires-clause-room
make_bit-requires-clause-room c =
    let cone : IsConeOrder c.args.graph.now c.args.table.now.leaves c.args.kept.now (c.args.table.now.lit.0 / 2) (reverse c.order-order.result.now) =
    walked_order c.args.graph.now c.args.table.now.leaves c.leaves-leaves.result.now c.args.kept.now (c.args.table.now.lit.0 / 2) c.walk_cone.new.walk.order c.order-order.result.now c.leaves-leaves.ensures c.order-order.ensures c.in_ok-walk_cone.ensures.order in
    first_room c.args.graph.now c.args.free.now c.args.table.now c.args.kept.now (with_marks c.args.free.now c.args.kept.now c.order-order.result.now) c.order-order.result.now cone
    (order_marked c.args.graph.now c.args.table.now.leaves c.args.free.now c.args.kept.now (with_marks c.args.free.now c.args.kept.now c.order-order.result.now) (c.args.table.now.lit.0 / 2) c.order-order.result.now cone c.requires.long refl) c.args.pack.now c.requires.room

pub mark_order-requires : goal.mark_order-requires
mark_order-requires c =
    let cone : IsConeOrder c.args.graph.now c.args.table.now.leaves c.args.kept.now (c.args.table.now.lit.0 / 2) (reverse c.order-order.result.now) =
    walked_order c.args.graph.now c.args.table.now.leaves c.leaves-leaves.result.now c.args.kept.now (c.args.table.now.lit.0 / 2) c.walk_cone.new.walk.order c.order-order.result.now c.leaves-leaves.ensures c.order-order.ensures c.in_ok-walk_cone.ensures.order in
    order_inside c.args.graph.now c.args.table.now.leaves c.args.kept.now (c.args.table.now.lit.0 / 2) c.order-order.result.now cone c.requires.long

pub push_bits-requires-clause-nodes : goal.push_bits-requires-clause-nodes
push_bits-requires-clause-nodes c = λ n i.
    let more : IsConeOrder c.args.graph.now c.args.table.now.leaves c.mark_order.new.kept (c.args.table.now.lit.0 / 2) (reverse c.order.result.now) =
    walked_order c.args.graph.now c.args.table.now.leaves c.leaves-leaves.result.now c.mark_order.new.kept (c.args.table.now.lit.0 / 2) c.walk_cone-2.new.walk.order c.order.result.now c.leaves-leaves.ensures c.order.ensures c.in_ok-walk_cone-2.ensures.order in
    (more.inner n (in_reversed c.order.result.now n i)).and

pub push_bits-requires-clause-room : goal.push_bits-requires-clause-room
push_bits-requires-clause-room c =
    let cone : IsConeOrder c.args.graph.now c.args.table.now.leaves c.args.kept.now (c.args.table.now.lit.0 / 2) (reverse c.order-order.result.now) =
    walked_order c.args.graph.now c.args.table.now.leaves c.leaves-leaves.result.now c.args.kept.now (c.args.table.now.lit.0 / 2) c.walk_cone.new.walk.order c.order-order.result.now c.leaves-leaves.ensures c.order-order.ensures c.in_ok-walk_cone.ensures.order in
    let marks : AreMarked c.args.free.now c.args.kept.now c.mark_order.new.kept (reverse c.order-order.result.now) =
    order_marked c.args.graph.now c.args.table.now.leaves c.args.free.now c.args.kept.now c.mark_order.new.kept (c.args.table.now.lit.0 / 2) c.order-order.result.now cone c.requires.long c.mark_order.ensures in
    let more : IsConeOrder c.args.graph.now c.args.table.now.leaves c.mark_order.new.kept (c.args.table.now.lit.0 / 2) (reverse c.order.result.now) =
    walked_order c.args.graph.now c.args.table.now.leaves c.leaves-leaves.result.now c.mark_order.new.kept (c.args.table.now.lit.0 / 2) c.walk_cone-2.new.walk.order c.order.result.now c.leaves-leaves.ensures c.order.ensures c.in_ok-walk_cone-2.ensures.order in
    rest_room c.args.graph.now c.args.free.now c.args.table.now c.args.kept.now c.mark_order.new.kept c.order-order.result.now cone marks c.order.result.now c.args.pack.now c.make_bit.new.pack c.make_bit.new.lits more c.requires.room c.in_ok-first.ensures.grown

pub returns-clause-made : goal.returns-clause-made
returns-clause-made c = λ luts among are between.
    let cone : IsConeOrder c.args.graph.now c.args.table.now.leaves c.args.kept.now (c.args.table.now.lit.0 / 2) (reverse c.order-order.result.now) =
    walked_order c.args.graph.now c.args.table.now.leaves c.leaves-leaves.result.now c.args.kept.now (c.args.table.now.lit.0 / 2) c.walk_cone.new.walk.order c.order-order.result.now c.leaves-leaves.ensures c.order-order.ensures c.in_ok-walk_cone.ensures.order in
    let marks : AreMarked c.args.free.now c.args.kept.now c.mark_order.new.kept (reverse c.order-order.result.now) =
    order_marked c.args.graph.now c.args.table.now.leaves c.args.free.now c.args.kept.now c.mark_order.new.kept (c.args.table.now.lit.0 / 2) c.order-order.result.now cone c.requires.long c.mark_order.ensures in
    let more : IsConeOrder c.args.graph.now c.args.table.now.leaves c.mark_order.new.kept (c.args.table.now.lit.0 / 2) (reverse c.order.result.now) =
    walked_order c.args.graph.now c.args.table.now.leaves c.leaves-leaves.result.now c.mark_order.new.kept (c.args.table.now.lit.0 / 2) c.walk_cone-2.new.walk.order c.order.result.now c.leaves-leaves.ensures c.order.ensures c.in_ok-walk_cone-2.ensures.order in
    let one : AreBitsMade c.args.graph.now luts c.args.table.now 0 1 c.args.pack.now c.args.bits.now.items c.make_bit.new.pack c.mark_order.new.kept c.make_bit.new.lits c.push.new.self.items =
    first_made c.args.graph.now luts c.args.free.now c.args.table.now (reverse c.order-order.result.now) c.args.pack.now c.args.bits.now.items c.args.kept.now c.mark_order.new.kept c.args.lits.now c.make_bit.new.pack c.make_bit.new.lits c.push.new.self.items
    c.in_ok-first.first between are (c.in_ok-first.ensures.made luts c.args.kept.now (record { among = among; order_is = cone; between = between })) c.in_ok-push.ensures.items marks in
    bits_on c.args.graph.now luts c.args.table.now 0 1 (2 ^ length c.args.table.now.leaves) c.args.pack.now c.args.bits.now.items c.make_bit.new.pack c.mark_order.new.kept c.make_bit.new.lits c.push.new.self.items
    c.push_bits.new.pack c.mark_order.new.kept c.push_bits.new.lits c.push_bits.new.bits.items one (c.in_ok-push_bits.ensures.made luts c.mark_order.new.kept (record { among = among; order_is = more; between = one.between }))

pub returns-clause-few : goal.returns-clause-few
returns-clause-few c =
    let cone : IsConeOrder c.args.graph.now c.args.table.now.leaves c.args.kept.now (c.args.table.now.lit.0 / 2) (reverse c.order-order.result.now) =
    walked_order c.args.graph.now c.args.table.now.leaves c.leaves-leaves.result.now c.args.kept.now (c.args.table.now.lit.0 / 2) c.walk_cone.new.walk.order c.order-order.result.now c.leaves-leaves.ensures c.order-order.ensures c.in_ok-walk_cone.ensures.order in
    let marks : AreMarked c.args.free.now c.args.kept.now c.mark_order.new.kept (reverse c.order-order.result.now) =
    order_marked c.args.graph.now c.args.table.now.leaves c.args.free.now c.args.kept.now c.mark_order.new.kept (c.args.table.now.lit.0 / 2) c.order-order.result.now cone c.requires.long c.mark_order.ensures in
    let more : IsConeOrder c.args.graph.now c.args.table.now.leaves c.mark_order.new.kept (c.args.table.now.lit.0 / 2) (reverse c.order.result.now) =
    walked_order c.args.graph.now c.args.table.now.leaves c.leaves-leaves.result.now c.mark_order.new.kept (c.args.table.now.lit.0 / 2) c.walk_cone-2.new.walk.order c.order.result.now c.leaves-leaves.ensures c.order.ensures c.in_ok-walk_cone-2.ensures.order in
    table_within c.args.graph.now c.args.free.now c.args.table.now c.args.kept.now c.mark_order.new.kept c.order-order.result.now cone marks c.order.result.now c.args.pack.now c.make_bit.new.pack c.push_bits.new.pack c.make_bit.new.lits c.push_bits.new.lits more c.in_ok-first.ensures.grown c.in_ok-push_bits.ensures.grown
