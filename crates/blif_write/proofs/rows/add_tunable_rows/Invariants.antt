use Rattle.blif_write.proofs.Common.{flat_map, range_with_len, IsAdded}
use Rattle.blif_write.proofs.RowLemmas.{tunable_row_text}
use Rattle.blif_write.proofs.rows.add_tunable_rows.Given as goal

abbrev pub invariant-loop-v : goal.invariant-loop-v
invariant-loop-v g l = IsAdded g.O.Sink.seen l.fn.writer (flat_map (tunable_row_text l.leaves) (range_with_len 0 l.v)) l.writer
