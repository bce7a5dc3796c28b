use Rattle.std.proofs.Common.{refl}
use Rattle.tl_piece.proofs.AddedLemmas.{added_none, added_room}
use Rattle.tl_piece.proofs.writer.Writer.make_room.Goals as goal

pub returns-then-has_room-clause-added : goal.returns-then-has_room-clause-added
returns-then-has_room-clause-added g c = added_none g.O.Sink.seen c.args.self.now

pub returns-clause-added : goal.returns-clause-added
returns-clause-added g c = added_room c.finish.result c.finish.ensures refl c.clear.ensures c.is_err-self.ensures.value
