use Rattle.aiger_io.proofs.Common.{◌≡◌, ◌≤◌, ◌+◌, ℕ, List, length, map, drop, Bor, named_count, no_symbols, symbols_from}
use Rattle.aiger_io.proofs.symbols.read_symbols.Given as goal

abbrev pub invariant-loop-row : goal.invariant-loop-row
invariant-loop-row l = record {
  number : l.number ≡ l.line + l.row-index;
  places : length l.said.places ≤ l.row-index;
  size : length l.said.names ≡ named_count l.header;
  so_far : symbols_from l.header l.number l.said (drop l.row-index (map (λ (r : Bor (List ℕ)). r.now) l.rows)) ≡ symbols_from l.header l.line (no_symbols l.header) (map (λ (r : Bor (List ℕ)). r.now) l.rows);
}
