use Rattle.blif_flat.proofs.Common.{take, is_cover, places_at, paths_of, AreWrittenAt}
use Rattle.blif_flat.proofs.field.loops.written_covers.Given as goal

abbrev pub invariant-loop-number : goal.invariant-loop-number
invariant-loop-number l = AreWrittenAt l.library (places_at l.library is_cover (paths_of l.instances)) (take l.number-index l.numbers) l.texts.items
