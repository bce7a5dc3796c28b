-- Refinement by starts and cycles carries runs over; one refinement follows another; and where there are cycles, there are runs.
use Rattle.std.specs.Prelude.{List, [], ◌∷◌}
use Rattle.machine.specs.Machine.{MealyMachine, Runs, stops, steps, GivesCycle, GivesRun, Refines}

module _ {I S O : Type 0} (low high : MealyMachine I S O) (cycles : (x : I) (s : S) (output : O) (next : S) → low.HasCycle x s output next → high.HasCycle x s output next) where
  runs_on : {s : S} {xs : List I} {outputs : List O} {states : List S} → Runs low s xs outputs states → Runs high s xs outputs states
  runs_on stops = stops
  runs_on {s} (steps x xs output next outputs states cycle rest) = steps x xs output next outputs states (cycles x s output next cycle) (runs_on rest)

  -- a machine refines another by its starts and cycles
  pub refines_by : ((s : S) → low.IsStart s → high.IsStart s) → Refines low high
  refines_by starts = record {
    starts = starts;
    cycles = cycles;
    runs = λ xs outputs states run. record { start = run.start; starts = starts run.start run.starts; runs = runs_on run.runs };
  }

module _ {I S O : Type 0} (low middle high : MealyMachine I S O) where
  -- one refinement after the other
  pub refines_on : Refines low middle → Refines middle high → Refines low high
  refines_on first second = record {
    starts = λ s is. second.starts s (first.starts s is);
    cycles = λ x s output next cycle. second.cycles x s output next (first.cycles x s output next cycle);
    runs = λ xs outputs states run. second.runs xs outputs states (first.runs xs outputs states run);
  }

-- A machine that has a cycle under any input from each state that has a property, which its next states have too, has a run under any inputs from such a start.
module _ {I S O : Type 0} (m : MealyMachine I S O) (Has : S → Type 0) (gives : (x : I) (s : S) → Has s → GivesCycle m x s)
    (keeps : (x : I) (s : S) (output : O) (next : S) → Has s → m.HasCycle x s output next → Has next) where
  record HaveRuns (s : S) (xs : List I) : Type 0 where
    outputs : List O
    states : List S
    are : Runs m s xs outputs states

  runs_there : (xs : List I) (s : S) → Has s → HaveRuns s xs
  runs_there [] s has = record { outputs = []; states = []; are = stops }
  runs_there (x ∷ xs) s has =
      let c = gives x s has in
      let rest = runs_there xs c.next (keeps x s c.output c.next has c.is) in
      record { outputs = c.output ∷ rest.outputs; states = c.next ∷ rest.states; are = steps x xs c.output c.next rest.outputs rest.states c.is rest.are }

  pub gives_runs : (start : S) → m.IsStart start → Has start → (xs : List I) → GivesRun m xs
  gives_runs start is has xs = let rest = runs_there xs start has in record { outputs = rest.outputs; states = rest.states; is = record { start = start; starts = is; runs = rest.are } }
