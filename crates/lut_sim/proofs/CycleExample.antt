-- A worked example: a LUT that complements a latch, as a machine under the configuration 1, 0.
use Rattle.std.specs.Prelude.{◌==◌, not, if◌then◌else◌, slice_index_or}
use Rattle.lut_sim.proofs.Common.{◌≡◌, ℕ, ◌*◌, Bool, true, false, List, [], ◌∷◌, refl, sym, subst, arith, Lut, address, FitsTables, source_value}
use Rattle.machine.specs.Machine.{IsRun, steps, stops}
use Rattle.lut_sim.specs.Cycle.{IsLutCycle, lut_machine, under}
use Rattle.lut_sim.proofs.SourceLemmas.{IsInputOrLatch, input, latch, either_side, complement, toggle, one_latch, only, toggle-playable}
use Rattle.lut_sim.proofs.FitLemmas.{cycle_only}

abbrev bits : List Bool
bits = true ∷ false ∷ []

-- the values of the literals in a cycle from the state s: of the latch's, and of its complement's
abbrev value : Bool → ℕ → Bool
value s l = if l == 2 then s else not s

the_latch : (n : ℕ) → IsInputOrLatch one_latch n → n ≡ 1
the_latch n (input low high) = omega arith
the_latch n (latch low high) = omega arith

bit : (s : Bool) → not s ≡ slice_index_or bits (address (value s) complement) false
bit true = refl
bit false = refl

fits : (s : Bool) → FitsTables toggle.luts one_latch bits [] (s ∷ []) (value s)
fits s = record {
  source = λ n r. subst (λ m. value s (2 * m) ≡ source_value one_latch [] (s ∷ []) m) (sym (the_latch n (either_side one_latch n r))) refl;
  table = λ u i plain. subst (λ (x : Lut). value s x.lit.0 ≡ slice_index_or bits (address (value s) x) false) (sym (only complement u i)) (bit s);
}

-- the output is the state, and the next state is its complement
cycle : (s : Bool) → IsLutCycle toggle one_latch (record { config = bits; values = [] }) (s ∷ []) (s ∷ []) (not s ∷ [])
cycle s = record {
  inputs = refl;
  states = refl;
  is = record { value = value s; fits = fits s; outputs_are = refl; next_are = refl };
  only = cycle_only toggle one_latch bits [] (s ∷ []) (s ∷ []) (not s ∷ []) (value s) toggle-playable (fits s) refl refl;
}

-- two cycles from the state 0
lut_run : IsRun (under bits (lut_machine toggle one_latch (false ∷ []))) ([] ∷ [] ∷ []) ((false ∷ []) ∷ (true ∷ []) ∷ []) ((true ∷ []) ∷ (false ∷ []) ∷ [])
lut_run = record {
  start = false ∷ [];
  starts = refl;
  runs = steps [] ([] ∷ []) (false ∷ []) (true ∷ []) ((true ∷ []) ∷ []) ((false ∷ []) ∷ []) (cycle false) (steps [] [] (true ∷ []) (false ∷ []) [] [] (cycle true) stops);
}
