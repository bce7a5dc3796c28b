use Rattle.ppc_file.proofs.Lemmas.{arith, at_drop_more, flat_map, bit_bytes, added_more}
use Rattle.ppc_file.proofs.add_parts.add_bits.Goals as goal

pub loop-lit-preserved : goal.loop-lit-preserved
loop-lit-preserved g c = added_more c.loop-lit.invariant _ _ (at_drop_more (flat_map (bit_bytes c.args.version)) c.args.bits.now c.loop-lit.lit-index _ (omega arith)) c.add_number-in-loop-lit.ensures
