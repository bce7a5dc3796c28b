use Rattle.aiger_io.proofs.Common.{◌≡◌, ℕ, List, map, drop, Bor, capped_numbers}
use Rattle.aiger_io.proofs.LineLemmas.{behind}
use Rattle.aiger_io.proofs.header.numbers.Given as goal

abbrev pub invariant-loop-word : goal.invariant-loop-word
invariant-loop-word l = behind l.numbers.items (capped_numbers (drop l.word-index (map (λ (w : Bor (List ℕ)). w.now) l.words))) ≡ capped_numbers (map (λ (w : Bor (List ℕ)). w.now) l.words)
