use Rattle.blif_flat.proofs.Common.{◌≡◌, ◌++◌, length, path_text}
use Rattle.blif_flat.proofs.field.written.written_path.Given as goal

abbrev pub invariant-loop-ordinal : goal.invariant-loop-ordinal
invariant-loop-ordinal l = l.text.items ++ path_text l.left.items ≡ l.initial.text.items ++ path_text l.initial.left.items

abbrev pub decreases-loop-ordinal : goal.decreases-loop-ordinal
decreases-loop-ordinal l = length l.left.items
