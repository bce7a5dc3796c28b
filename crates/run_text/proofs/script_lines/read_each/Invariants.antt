use Rattle.run_text.proofs.Common.{◌≡◌, map, vec_len, words_line, event_values}
use Rattle.run_text.proofs.ScriptReadLemmas.{AreRead}
use Rattle.run_text.proofs.script_lines.read_each.Given as goal

abbrev pub invariant-loop-line : goal.invariant-loop-line
invariant-loop-line l = record {
  count : vec_len l.events ≡ l.line-index;
  read : AreRead l.names (map (words_line l.text) l.lines) l.line-index (event_values l.events.items);
}
