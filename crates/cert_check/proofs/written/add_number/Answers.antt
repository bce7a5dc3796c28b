use Rattle.tl_piece.proofs.AddedLemmas.{added_twice}
use Rattle.cert_check.proofs.written.add_number.Goals as goal

pub returns : goal.returns
returns g c = added_twice c.add_byte.ensures c.add_number.ensures
