use Rattle.std.proofs.Common.{refl, [], ◌∷◌}
use Rattle.tl_piece.proofs.AddedLemmas.{added_twice, added_behind}
use Rattle.tl_piece.proofs.writer.Writer.add_byte.Goals as goal

pub returns : goal.returns
returns g c = added_twice {more = c.args.byte ∷ []} c.make_room.ensures.added (added_behind g.O.Sink.seen c.make_room.new.self _ (c.args.byte ∷ []) refl refl c.push.ensures)
