-- The names of a model, each once: they are all there, and no more than the model holds.
use Rattle.blif_flat.proofs.Common.{◌≡◌, ℕ, ◌+◌, ◌<◌, ◌≤◌, List, [], ◌∷◌, ◌++◌, length, get_or, drop, Option, Some, None, refl, sym, ap, ◌∙◌, arith, length-append, length-map, drop_at, Body, Cover, Latch, Subckt, Command, Connection, ModelValue, control_names, body_names, commands_names, all_names, with_names, distinct_names, control_weight, body_weight, commands_weight, own_weight, with_names-length}
pub use Rattle.tl_text.proofs.NameSetLemmas.{with_names-append}

-- those of the commands from a place on, and those of a model's ports and commands
pub commands_split : (names : List (List ℕ)) (cs : List Command) (i : ℕ) (c : Command) → i < length cs → c ≡ get_or cs i c
    → with_names names (commands_names (drop i cs)) ≡ with_names (with_names names (body_names c.body)) (commands_names (drop (i + 1) cs))
commands_split names cs i c h e = ap (λ ds. with_names names (commands_names ds)) (drop_at cs i c h e) ∙ with_names-append names (body_names c.body) (commands_names (drop (i + 1) cs))

pub model_split : (m : ModelValue) → with_names (with_names (with_names (with_names [] m.inputs) m.outputs) m.clocks) (commands_names m.commands) ≡ distinct_names m
model_split m = grind (arith, with_names-append, commands_names, with_names)

-- a model holds all its names
control_names-length : (control : Option (List ℕ)) → length (control_names control) ≡ control_weight control
control_names-length None = refl
control_names-length (Some name) = refl

body_names-length : (body : Body) → length (body_names body) ≡ body_weight body
body_names-length (Cover c) = length-append c.inputs (c.output ∷ [])
body_names-length (Latch l) = let e : length (control_names l.control) ≡ control_weight l.control = control_names-length l.control in omega arith
body_names-length (Subckt s) = length-map s.pairs (λ (pair : Connection). pair.actual)

commands_names-length : (cs : List Command) → length (commands_names cs) ≡ commands_weight cs
commands_names-length [] = refl
commands_names-length (c ∷ cs) = grind (arith, length-append, body_names, commands_names, body_names-length, commands_names-length cs)

pub distinct_few : (m : ModelValue) → length (distinct_names m) ≤ own_weight m
distinct_few m = grind (arith, distinct_names, all_names, with_names-length, commands_names, length-append, commands_names-length)
