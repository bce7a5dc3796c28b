use Rattle.tl_text.proofs.Common.{◌≡◌, ◌+◌, ◌≤◌, length, take, suffix_len, is_blank}
use Rattle.tl_text.proofs.physical_line.trimmed_len.Given as goal

abbrev pub invariant-loop-end : goal.invariant-loop-end
invariant-loop-end l = record {
  within : l.end ≤ length l.line;
  rest : l.end + suffix_len is_blank l.line ≡ length l.line + suffix_len is_blank (take l.end l.line);
}

abbrev pub decreases-loop-end : goal.decreases-loop-end
decreases-loop-end l = l.end
