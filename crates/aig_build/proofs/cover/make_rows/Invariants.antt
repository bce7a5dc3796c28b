use Rattle.aig_build.proofs.Common.{◌≡◌, [], drop, All, Lit, IsLit, first_and, with_pairs, rows_onto}
use Rattle.aig_build.proofs.cover.make_rows.Given as goal

abbrev pub invariant-loop-row : goal.invariant-loop-row
invariant-loop-row l = record {
  graph : l.graph ≡ with_pairs l.initial.graph l.graph.pairs;
  made : rows_onto (first_and l.graph) l.graph.pairs l.lits.items (drop l.row-index l.rows) l.inputs ≡ rows_onto (first_and l.initial.graph) l.initial.graph.pairs [] l.rows l.inputs;
  members : All (λ (input : Lit). IsLit l.graph input.0) l.inputs;
  lits : All (λ (lit : Lit). IsLit l.graph lit.0) l.lits.items;
}
