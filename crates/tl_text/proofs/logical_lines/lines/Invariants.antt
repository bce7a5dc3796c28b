use Rattle.tl_text.proofs.Common.{◌≡◌, ◌+◌, ◌≤◌, lines_of}
use Rattle.tl_text.proofs.LineLemmas.{reads}
use Rattle.tl_text.proofs.logical_lines.lines.Given as goal

abbrev pub invariant-loop-i : goal.invariant-loop-i
invariant-loop-i l = record {
  within : l.start ≤ l.i;
  count : l.number ≤ l.i + 1;
  same : reads l.text l.i l.number l.start l.reader ≡ lines_of l.text;
}
