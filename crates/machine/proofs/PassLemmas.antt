-- What passes from a state on: one cycle more, the same cycles with the state after each, a property that cycles keep, and what another machine shows of them.
use Rattle.std.proofs.Common.{◌≡◌, suc, List, [], ◌∷◌, ◌++◌, length, map, refl, ap, inl, inr}
use Rattle.list_laws.specs.Members.{In}
use Rattle.machine.specs.Machine.{MealyMachine, Runs, stops, steps, Passes, none, more, end_of}

module _ {I S O : Type 0} (m : MealyMachine I S O) where
  -- one cycle more
  pub then_one : {old mid new : S} {xs : List I} {outputs : List O} (x : I) (output : O) → Passes m old xs outputs mid → m.HasCycle x mid output new → Passes m old (xs ++ x ∷ []) (outputs ++ output ∷ []) new
  then_one {new = new} x output none cycle = more x output new cycle none
  then_one x output (more first here next is rest) cycle = more first here next is (then_one x output rest cycle)

  -- an output stands for each input
  pub one_each : {old new : S} {xs : List I} {outputs : List O} → Passes m old xs outputs new → length outputs ≡ length xs
  one_each none = refl
  one_each (more x output mid cycle rest) = ap suc (one_each rest)

  -- a run passes to the state behind its cycles, and what passes is a run
  pub run_passes : {s : S} {xs : List I} {outputs : List O} {states : List S} → Runs m s xs outputs states → Passes m s xs outputs (end_of s states)
  run_passes stops = none
  run_passes (steps x xs output next outputs states cycle rest) = more x output next cycle (run_passes rest)

  pub passes_run : {s end : S} {xs : List I} {outputs : List O} → Passes m s xs outputs end → (states : List S) × Runs m s xs outputs states × end_of s states ≡ end
  passes_run none = ([], stops, refl)
  passes_run (more {xs = xs} {outputs = outputs} x output mid cycle rest) =
      let later = passes_run rest in
      (mid ∷ later.0, steps x xs output mid outputs later.0 cycle later.1, later.2)

-- A machine under inputs that it allows, from a state that has a property which its cycles keep.
module _ {I S O : Type 0} (low : MealyMachine I S O) (Allows : I → Type 0) (Has : S → Type 0)
    (keeps : (x : I) (old : S) (output : O) (new : S) → Allows x → Has old → low.HasCycle x old output new → Has new) where
  pub passes_keep : {old new : S} {xs : List I} {outputs : List O} → ((x : I) → In xs x → Allows x) → Has old → Passes low old xs outputs new → Has new
  passes_keep allows has none = has
  passes_keep {old} allows has (more x output mid cycle rest) = passes_keep (λ y i. allows y (inr i)) (keeps x old output mid (allows x (inl refl)) has cycle) rest

  -- each cycle is one of another machine, by what this shows of its states and outputs
  module _ {T P : Type 0} (high : MealyMachine I T P) (state : S → T) (shown : O → P)
      (cycles : (x : I) (old : S) (output : O) (new : S) → Allows x → Has old → low.HasCycle x old output new → high.HasCycle x (state old) (shown output) (state new)) where
    pub passes_over : {old new : S} {xs : List I} {outputs : List O} → ((x : I) → In xs x → Allows x) → Has old → Passes low old xs outputs new → Passes high (state old) xs (map shown outputs) (state new)
    passes_over allows has none = none
    passes_over {old} allows has (more x output mid cycle rest) =
        let here = allows x (inl refl) in
        more x (shown output) (state mid) (cycles x old output mid here has cycle) (passes_over (λ y i. allows y (inr i)) (keeps x old output mid here has cycle) rest)
