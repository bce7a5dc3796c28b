use Rattle.tl_text.proofs.Common.{◌≡◌, ◌+◌, ◌++◌, drop, tokens_at, spans}
use Rattle.tl_text.proofs.physical_line.push_tokens.Given as goal

abbrev pub invariant-loop-b : goal.invariant-loop-b
invariant-loop-b l = record {
  here : l.here ≡ l.at + l.b-index;
  same : l.tokens.items ++ spans l.here l.open (drop l.b-index l.line) ≡ l.initial.tokens.items ++ tokens_at l.at l.line;
}
