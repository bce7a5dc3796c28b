use Rattle.tl_text.proofs.Common.{◌≡◌, drop, has_slash_end}
use Rattle.tl_text.proofs.physical_line.has_slash_end.Given as goal

abbrev pub invariant-loop-i : goal.invariant-loop-i
invariant-loop-i l = has_slash_end (drop l.i l.line) ≡ has_slash_end l.line
