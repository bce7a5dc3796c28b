use Rattle.cert_check.proofs.Common.{map, words_line}
use Rattle.cert_check.proofs.LineLemmas.{AreRead}
use Rattle.cert_check.proofs.cert_lines.read_steps.Given as goal

abbrev pub invariant-loop-line : goal.invariant-loop-line
invariant-loop-line l = AreRead (map (words_line l.text) l.lines) l.line-index l.steps.items
