-- A synchronous machine by its clock cycles, its runs, and what it is for one machine to refine another.
use Rattle.std.specs.Prelude.{◌≡◌, List, [], ◌∷◌}

-- A synchronous machine: the states at which it starts, and its clock cycles. In a cycle, from a state, it takes an input, and gives an output and its next state.
pub record MealyMachine (Input State Output : Type 0) : Type 1 where
  pub IsStart : State → Type 0
  pub HasCycle : Input → State → Output → State → Type 0

-- Clock cycles from a state on, each of which hands its next state on: the output of each, and the state after it.
pub data Runs {I S O : Type 0} (m : MealyMachine I S O) : S → List I → List O → List S → Type 0 where
  stops : {s : S} → Runs m s [] [] []
  steps : {s : S} (x : I) (xs : List I) (output : O) (next : S) (outputs : List O) (states : List S)
      → m.HasCycle x s output next → Runs m next xs outputs states → Runs m s (x ∷ xs) (output ∷ outputs) (next ∷ states)

-- a run begins at a start
pub record IsRun {I S O : Type 0} (m : MealyMachine I S O) (xs : List I) (outputs : List O) (states : List S) : Type 0 where
  pub start : S
  pub starts : m.IsStart start
  pub runs : Runs m start xs outputs states

-- The same cycles, with only the state after the last one.
pub data Passes {I S O : Type 0} (m : MealyMachine I S O) : S → List I → List O → S → Type 0 where
  none : {s : S} → Passes m s [] [] s
  more : {old new : S} {xs : List I} {outputs : List O} (x : I) (output : O) (mid : S) → m.HasCycle x old output mid → Passes m mid xs outputs new → Passes m old (x ∷ xs) (output ∷ outputs) new

-- the state after the last of some cycles, from the one before them and those after each
abbrev pub end_of : {S : Type 0} → S → List S → S
end_of s [] = s
end_of s (next ∷ states) = end_of next states

-- there is a cycle from a state under an input, and a run under inputs
pub record GivesCycle {I S O : Type 0} (m : MealyMachine I S O) (x : I) (s : S) : Type 0 where
  pub output : O
  pub next : S
  pub is : m.HasCycle x s output next

pub record GivesRun {I S O : Type 0} (m : MealyMachine I S O) (xs : List I) : Type 0 where
  pub outputs : List O
  pub states : List S
  pub is : IsRun m xs outputs states

-- under one input, from one state, a machine has at most one output and at most one next state
pub record IsDetermined {I S O : Type 0} (m : MealyMachine I S O) : Type 0 where
  pub outputs : (x : I) (s : S) (output other : O) (next last : S) → m.HasCycle x s output next → m.HasCycle x s other last → output ≡ other
  pub states : (x : I) (s : S) (output other : O) (next last : S) → m.HasCycle x s output next → m.HasCycle x s other last → next ≡ last

-- a machine whose inputs are read by a function from others, and one that takes only some inputs
abbrev pub reading : {A B S O : Type 0} → (A → B) → MealyMachine B S O → MealyMachine A S O
reading read m = record { IsStart = m.IsStart; HasCycle = λ x s output next. m.HasCycle (read x) s output next }

abbrev pub restricted : {I S O : Type 0} → (I → Type 0) → MealyMachine I S O → MealyMachine I S O
restricted Allows m = record { IsStart = m.IsStart; HasCycle = λ x s output next. Allows x × m.HasCycle x s output next }

-- One machine refines another: it starts only where the other does, each of its cycles is one of the other's, and so each of its runs is one of the other's. It may have fewer cycles, or none.
pub record Refines {I S O : Type 0} (low high : MealyMachine I S O) : Type 0 where
  pub starts : (s : S) → low.IsStart s → high.IsStart s
  pub cycles : (x : I) (s : S) (output : O) (next : S) → low.HasCycle x s output next → high.HasCycle x s output next
  pub runs : (xs : List I) (outputs : List O) (states : List S) → IsRun low xs outputs states → IsRun high xs outputs states

-- each refines the other: they have the same starts, cycles and runs
pub record Agrees {I S O : Type 0} (one other : MealyMachine I S O) : Type 0 where
  pub forth : Refines one other
  pub back : Refines other one
