use Rattle.tl_piece.proofs.Common.{arith, take_all}
use Rattle.tl_piece.proofs.AddedLemmas.{added_none, added_as}
use Rattle.tl_piece.proofs.PartLemmas.{added_next_byte}
use Rattle.tl_piece.proofs.writer.Writer.add_text.Goals as goal

pub loop-byte-init : goal.loop-byte-init
loop-byte-init g c = added_none g.O.Sink.seen c.args.self.now

pub loop-byte-preserved : goal.loop-byte-preserved
loop-byte-preserved g c = added_next_byte c.args.text.now c.loop-byte.byte-index (omega arith) c.loop-byte.invariant c.add_byte.ensures

pub returns : goal.returns
returns g c = added_as (take_all c.loop-byte.byte-index c.args.text.now (omega arith)) c.loop-byte.invariant
