use Rattle.std.proofs.Common.{length, ap, ◌∙◌, arith}
use Rattle.dirty_idx.proofs.ReadLemmas.{length-bit_readings}
use Rattle.dirty_idx.proofs.readers.address_lists.Goals as goal

pub make-requires-clause-few : goal.make-requires-clause-few
make-requires-clause-few c = omega (arith, ap length (c.deref.ensures.value ∙ c.in_ok-readings.ensures) ∙ length-bit_readings 0 c.args.bits.now, c.requires.few)
