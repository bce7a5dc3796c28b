use Rattle.bit_fun.proofs.Common.{◌≡◌, drop, length, node_count, AreTablesMadeTo}
use Rattle.bit_fun.proofs.template_functions.push_tables.Given as goal

abbrev pub invariant-loop-table : goal.invariant-loop-table
invariant-loop-table l = record {
  so_far : AreTablesMadeTo l.graph l.free.items l.tables (drop l.table-index l.tables) l.fn.pack l.pack l.kept.items l.lits l.bits.items;
  count : l.walk.count ≡ node_count l.graph;
  long : length l.kept.items ≡ node_count l.graph;
}
