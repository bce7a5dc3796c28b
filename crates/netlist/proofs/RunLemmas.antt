-- Where values of all names fit for all values of inputs and latches, there are cycles from any states and runs of any length.
use Rattle.netlist.proofs.Common.{◌≡◌, ℕ, Bool, List, [], length, map, refl, sym, ap, ◌∙◌, length-map, LibraryValue, ModelValue, Place, latch_at, AreLatches, inits_of, init_state, state_of, next_state, next_states, HasOneCycle, GivesCycle, GivesRun, gives_runs}
use Rattle.netlist.specs.Runs.{IsCycle, library_machine}

-- a cycle leaves as many states as there were
pub cycle_count : (library : LibraryValue) (x : List ℕ → Bool) (s outputs next : List Bool) → IsCycle library x s outputs next → length next ≡ length s
cycle_count library x s outputs next c = ap length c.next_are ∙ length-map c.latches (λ (p : Place). next_state (c.value p.path) (latch_at library p)) ∙ sym c.states

module _ (library : LibraryValue) (law : HasOneCycle library) (main : ModelValue) (latches : List Place) (are : AreLatches library main latches) where
  pub cycle_there : (x : List ℕ → Bool) (s : List Bool) → length s ≡ length latches → GivesCycle (library_machine library) x s
  cycle_there x s len =
      let fit = law.exists x (state_of latches s) in
      record {
        output = map (fit.value []) main.outputs;
        next = next_states library fit.value latches;
        is = record { main = main; latches = latches; are_latches = are; states = len; value = fit.value; fits = fit.fits; outputs_are = refl; next_are = refl };
      }

  pub run_there : (xs : List (List ℕ → Bool)) → GivesRun (library_machine library) xs
  run_there = gives_runs (library_machine library) (λ s. length s ≡ length latches) cycle_there (λ x s outputs next many c. cycle_count library x s outputs next c ∙ many)
      (inits_of library latches) (record { main = main; latches = latches; are_latches = are; are = refl }) (length-map latches (λ (p : Place). init_state (latch_at library p)))
