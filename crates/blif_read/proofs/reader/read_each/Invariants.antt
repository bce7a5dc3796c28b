use Rattle.blif_read.proofs.Common.{◌≡◌, into_iter_items, AreLinesIn, statements, steps}
use Rattle.blif_read.proofs.reader.read_each.Given as goal

abbrev pub invariant-loop-line : goal.invariant-loop-line
invariant-loop-line l = record {
  next : (goal.iterator-loop-line).can_next l.line-iterator;
  ends : (goal.iterator-loop-line).is_finite l.line-iterator;
  lines : AreLinesIn l.text (into_iter_items l.line-iterator);
  read : steps l.reader (statements l.text (into_iter_items l.line-iterator)) ≡ steps l.initial.reader (statements l.text l.fn.lines.items);
}
