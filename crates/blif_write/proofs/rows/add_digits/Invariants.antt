use Rattle.blif_write.proofs.Common.{flat_map, range_with_len, IsAdded}
use Rattle.blif_write.proofs.RowLemmas.{digit_text}
use Rattle.blif_write.proofs.rows.add_digits.Given as goal

abbrev pub invariant-loop-place : goal.invariant-loop-place
invariant-loop-place g l = IsAdded g.O.Sink.seen l.fn.writer (flat_map (digit_text l.v) (range_with_len 0 l.place)) l.writer
