use Rattle.blif_write.proofs.Common.{◌-◌, ◌∷◌, flat_map, range_with_len, IsAdded, bit_name}
use Rattle.blif_write.proofs.tables.add_bits.Given as goal

abbrev pub invariant-loop-address : goal.invariant-loop-address
invariant-loop-address g l = IsAdded g.O.Sink.seen l.fn.writer (flat_map (λ a. 32 ∷ bit_name l.names a) (range_with_len l.base (l.address - l.base))) l.writer
