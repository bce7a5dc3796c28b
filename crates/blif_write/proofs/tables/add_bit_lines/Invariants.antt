use Rattle.blif_write.proofs.Common.{◌∷◌, take, flat_map, IsAdded, codes, line_text, bit_names}
use Rattle.blif_write.proofs.tables.add_bit_lines.Given as goal

abbrev pub invariant-loop-table : goal.invariant-loop-table
invariant-loop-table g l = IsAdded g.O.Sink.seen l.fn.writer (flat_map (λ t. line_text (codes ".inputs" ∷ bit_names l.names t)) (take l.table-index l.tables)) l.writer
