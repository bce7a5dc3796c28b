use Rattle.blif_write.proofs.Common.{take, flat_map, IsAdded, line_text, cover_lines, fixed_table}
use Rattle.blif_write.proofs.tables.add_fixed_tables.Given as goal

abbrev pub invariant-loop-table : goal.invariant-loop-table
invariant-loop-table g l = IsAdded g.O.Sink.seen l.fn.writer (flat_map (λ t. flat_map line_text (cover_lines (fixed_table l.names l.config t))) (take l.table-index l.tables)) l.writer
