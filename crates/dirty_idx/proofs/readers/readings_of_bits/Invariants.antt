use Rattle.dirty_idx.proofs.Common.{◌≡◌, ◌++◌, drop, bit_readings}
use Rattle.dirty_idx.proofs.readers.readings_of_bits.Given as goal

abbrev pub invariant-loop-address : goal.invariant-loop-address
invariant-loop-address l = l.readings.items ++ bit_readings l.address (drop l.address l.bits) ≡ bit_readings 0 l.bits
