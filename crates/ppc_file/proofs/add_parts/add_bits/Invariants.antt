use Rattle.ppc_file.proofs.Common.{drop, length, flat_map, bit_bytes, bits_part, Added}
use Rattle.ppc_file.proofs.add_parts.add_bits.Given as goal

abbrev pub invariant-loop-lit : goal.invariant-loop-lit
invariant-loop-lit g l = Added g.O.Sink.seen l.fn.writer (bits_part l.version (length l.bits) l.bits) l.writer (flat_map (bit_bytes l.version) (drop l.lit-index l.bits))
