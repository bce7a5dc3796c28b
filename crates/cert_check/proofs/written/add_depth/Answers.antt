use Rattle.cert_check.proofs.WriteLemmas.{depth_line}
use Rattle.tl_piece.proofs.AddedLemmas.{added_as, added_twice}
use Rattle.cert_check.proofs.written.add_depth.Goals as goal

pub returns : goal.returns
returns g c = added_as (depth_line c.args.depth) (added_twice c.add_text.ensures (added_twice c.add_number.ensures c.add_byte.ensures))
