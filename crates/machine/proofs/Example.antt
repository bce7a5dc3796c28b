-- A worked example: a delay of one bit refines a machine that may answer anything, and not the other way round.
use Rattle.std.proofs.Common.{◌≡◌, Bool, true, false, [], ◌∷◌, refl, sym, ◌∙◌}
use Rattle.std.proofs.lemmas.Bool.{false≢true}
use Rattle.machine.specs.Machine.{MealyMachine, stops, steps, IsRun, IsDetermined, Refines}
use Rattle.machine.proofs.RefineLemmas.{refines_by}

abbrev delay : MealyMachine Bool Bool Bool
delay = record { IsStart = λ s. s ≡ false; HasCycle = λ x s output next. (output ≡ s) × (next ≡ x) }

abbrev any_answer : MealyMachine Bool Bool Bool
any_answer = record { IsStart = λ s. s ≡ false; HasCycle = λ x s output next. next ≡ x }

run : IsRun delay (true ∷ false ∷ []) (false ∷ true ∷ []) (true ∷ false ∷ [])
run = record { start = false; starts = refl; runs = steps true (false ∷ []) false true (true ∷ []) (false ∷ []) (refl, refl) (steps false [] true false [] [] (refl, refl) stops) }

determined : IsDetermined delay
determined = record { outputs = λ x s output other next last one two. one.0 ∙ sym two.0; states = λ x s output other next last one two. one.1 ∙ sym two.1 }

refines : Refines delay any_answer
refines = refines_by delay any_answer (λ x s output next c. c.1) (λ s is. is)

not_back : Refines any_answer delay → ⊥
not_back r = false≢true (r.cycles false true false false refl).0
