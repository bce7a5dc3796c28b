use Rattle.blif_read.proofs.Common.{◌≡◌, ◌++◌, drop, option_map, cells_of}
use Rattle.blif_read.proofs.row_line.cells.Given as goal

abbrev pub invariant-loop-byte : goal.invariant-loop-byte
invariant-loop-byte l = option_map (λ cells. l.done.items ++ cells) (cells_of (drop l.byte-index l.word)) ≡ cells_of l.word
