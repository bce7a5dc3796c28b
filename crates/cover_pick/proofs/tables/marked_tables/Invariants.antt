use Rattle.cover_pick.proofs.Common.{◌≡◌, ◌≤◌, drop, [], MOST_WORK, tables_from}
use Rattle.cover_pick.proofs.tables.marked_tables.Given as goal

abbrev pub invariant-loop-needed : goal.invariant-loop-needed
invariant-loop-needed l = record {
  rest : tables_from l.graph l.cuts l.made l.lit (drop l.needed-index l.marks) ≡ tables_from l.graph l.cuts (record { luts = []; bits = 0 }) 0 l.marks;
  place : l.lit ≡ l.needed-index;
  within : l.made.bits ≤ MOST_WORK;
}
