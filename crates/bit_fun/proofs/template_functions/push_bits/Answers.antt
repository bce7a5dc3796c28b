use Rattle.bit_fun.proofs.Lemmas.{◌^◌, length, refl, ap, arith, no_bits, one_bit_more, bits_grown, bit_room}
use Rattle.bit_fun.proofs.template_functions.push_bits.Goals as goal

pub loop-v-init : goal.loop-v-init
loop-v-init c = record {
  made = λ luts kept ready. no_bits c.args.graph.now luts c.args.table.now 1 c.args.pack.now c.args.bits.now.items kept c.args.lits.now ready.between;
  grown = record { same = refl; few = omega arith; lits = c.requires.lits };
}

pub make_bit-requires-clause-room : goal.make_bit-requires-clause-room
make_bit-requires-clause-room c =
    bit_room c.args.graph.now c.args.pack.now c.loop-v.pack c.loop-v.v (2 ^ length c.args.table.now.leaves) (length c.args.order.now) c.loop-v.lits (omega arith) (omega (arith, ap (λ n. 2 ^ n) c.len.ensures.count)) c.requires.room c.loop-v.invariant.grown

pub loop-v-preserved : goal.loop-v-preserved
loop-v-preserved c = record {
  made = λ luts kept ready.
      let so_far = c.loop-v.invariant.made luts kept ready in
      one_bit_more c.args.graph.now luts c.args.table.now 1 c.loop-v.v _ c.args.pack.now c.args.bits.now.items c.loop-v.pack kept c.loop-v.lits c.loop-v.bits.items c.make_bit.new.pack c.make_bit.new.lits c.push.new.self.items
      c.in_ok-bit.bit so_far (c.in_ok-bit.ensures.made luts kept (record { among = ready.among; order_is = ready.order_is; between = so_far.between })) c.in_ok-push.ensures.items;
  grown = bits_grown c.args.graph.now c.args.pack.now c.loop-v.pack c.make_bit.new.pack c.loop-v.v (length c.args.order.now) c.loop-v.lits c.make_bit.new.lits (omega arith) c.loop-v.invariant.grown c.in_ok-bit.ensures.grown;
}
