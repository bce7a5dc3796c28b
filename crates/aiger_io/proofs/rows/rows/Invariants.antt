use Rattle.aiger_io.proofs.Common.{◌≡◌, ◌≤◌, ℕ, List, ◌++◌, length, map, drop, Bor, lines_of_parts}
use Rattle.aiger_io.proofs.rows.rows.Given as goal

abbrev pub invariant-loop-i : goal.invariant-loop-i
invariant-loop-i l = record {
  count : length l.rows.items ≤ l.i;
  so_far : map (λ (r : Bor (List ℕ)). r.now) l.rows.items ++ lines_of_parts (drop l.i (map (λ (r : Bor (List ℕ)). r.now) l.part-items)) ≡ lines_of_parts (map (λ (r : Bor (List ℕ)). r.now) l.part-items);
}
