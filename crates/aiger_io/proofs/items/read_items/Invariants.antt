use Rattle.aiger_io.proofs.Common.{◌≡◌, ◌≤◌, ℕ, List, [], length, map, drop, Bor, item_count, items_from}
use Rattle.aiger_io.proofs.items.read_items.Given as goal

abbrev pub invariant-loop-row : goal.invariant-loop-row
invariant-loop-row l = record {
  count : length l.items.items ≡ l.row-index;
  within : length l.items.items ≤ item_count l.header;
  so_far : items_from l.header l.items.items (drop l.row-index (map (λ (r : Bor (List ℕ)). r.now) l.rows)) ≡ items_from l.header [] (map (λ (r : Bor (List ℕ)). r.now) l.rows);
}
