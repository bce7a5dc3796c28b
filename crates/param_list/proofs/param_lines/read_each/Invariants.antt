use Rattle.param_list.proofs.Common.{◌≡◌, map, words_line, param_names}
use Rattle.param_list.proofs.LineLemmas.{AreRead}
use Rattle.param_list.proofs.param_lines.read_each.Given as goal

abbrev pub invariant-loop-line : goal.invariant-loop-line
invariant-loop-line l = record {
  read : AreRead l.inputs l.clocks (map (words_line l.text) l.lines) l.line-index l.params.items;
  seen : l.seen ≡ param_names l.params.items;
}
