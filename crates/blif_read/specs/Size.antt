-- How much a library holds: 1 for each model and command, and for each name 1 and its bytes. Rows don't count.
use Rattle.std.specs.Prelude.{ℕ, ◌+◌, List, [], ◌∷◌, length, Option, Some, None}
use Rattle.blif_read.specs.Words.{Body, Cover, Command, Connection, ModelValue, LibraryValue}
use Rattle.netlist.specs.declared.command.Body.TheVariants.{Latch, Subckt}

abbrev pub name_size : List ℕ → ℕ
name_size name = 1 + length name

abbrev pub names_size : List (List ℕ) → ℕ
names_size [] = 0
names_size (name ∷ names) = name_size name + names_size names

abbrev pub pairs_size : List Connection → ℕ
pairs_size [] = 0
pairs_size (pair ∷ pairs) = name_size pair.formal + name_size pair.actual + pairs_size pairs

abbrev pub control_size : Option (List ℕ) → ℕ
control_size None = 0
control_size (Some name) = name_size name

abbrev pub body_size : Body → ℕ
body_size (Cover cover) = names_size cover.inputs + name_size cover.output
body_size (Latch latch) = name_size latch.input + name_size latch.output + control_size latch.control
body_size (Subckt subckt) = name_size subckt.model + pairs_size subckt.pairs

abbrev pub commands_size : List Command → ℕ
commands_size [] = 0
commands_size (command ∷ commands) = 1 + body_size command.body + commands_size commands

abbrev pub model_size : ModelValue → ℕ
model_size m = 1 + name_size m.name + names_size m.inputs + names_size m.outputs + names_size m.clocks + commands_size m.commands

abbrev pub models_size : List ModelValue → ℕ
models_size [] = 0
models_size (m ∷ ms) = model_size m + models_size ms

abbrev pub library_size : LibraryValue → ℕ
library_size library = models_size library.models
