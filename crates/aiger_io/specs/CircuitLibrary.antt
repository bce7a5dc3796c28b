-- The library of a circuit: one model, with a cover or a latch for what each line says.
use Rattle.std.specs.Prelude.{ℕ, ◌+◌, ◌-◌, ◌*◌, ◌/◌, ◌%◌, Bool, true, if◌then◌else◌, ◌==◌, List, [], ◌∷◌, ◌++◌, replicate, slice_index_or, None, codes, decimal}
use Rattle.netlist.specs.Flat.{most_underscores}
use Rattle.netlist.specs.LibraryValue.{ModelValue, LibraryValue}
use Rattle.netlist.specs.declared.cell.Cell.{Cell}
use Rattle.netlist.specs.declared.cell.Cell.TheVariants.{Zero, One}
use Rattle.netlist.specs.declared.command.Body.TheVariants as body
use Rattle.netlist.specs.declared.command.Command.{Command}
use Rattle.aiger_io.specs.Circuit.{Circuit}
use Rattle.aiger_io.specs.declared.header.Header.{Header}
use Rattle.aiger_io.specs.declared.item.Item.{Item}
use Rattle.aiger_io.specs.declared.item.Item.TheVariants.{Input, Latch, Output, And}

-- names of the library's own begin with one underscore (95) more than any port's: of variables, which go on with `v` (118), and of
-- next states, with `x` (120)
abbrev pub mark_of : List (List ℕ) → List ℕ
mark_of names = replicate (1 + most_underscores names) 95

abbrev pub own_name : List ℕ → ℕ → ℕ → List ℕ
own_name mark letter n = mark ++ letter ∷ decimal n

abbrev pub variable_name : List ℕ → ℕ → List ℕ
variable_name mark v = own_name mark 118 v

abbrev pub next_name : List ℕ → ℕ → List ℕ
next_name mark k = own_name mark 120 k

-- what a row asks of a literal's variable
abbrev pub cell_of : ℕ → Cell
cell_of l = if l % 2 == 1 then Zero else One

-- a cover with one row, and with none
abbrev pub cover_command : ℕ → List (List ℕ) → List ℕ → List Cell → Command
cover_command line inputs output cells = record { line = line; body = body.Cover (record { inputs = inputs; output = output; value = true; rows = record { cells = cells } ∷ [] }) }

abbrev pub zero_command : ℕ → List ℕ → Command
zero_command line output = record { line = line; body = body.Cover (record { inputs = []; output = output; value = true; rows = [] }) }

-- a name that has a literal's value
abbrev pub literal_command : List ℕ → ℕ → ℕ → List ℕ → Command
literal_command mark line l output = cover_command line (variable_name mark (l / 2) ∷ []) output (cell_of l ∷ [])

abbrev pub latch_command : ℕ → List ℕ → List ℕ → Bool → Command
latch_command line input output init = record { line = line; body = body.Latch (record { input = input; output = output; control = None; init = init }) }

abbrev pub port_name : List (List ℕ) → ℕ → List ℕ
port_name names ordinal = slice_index_or names ordinal []

-- The commands of the line at a place. An input's variable has the input's value; a latch's next state has a name of its own; an AND gate
-- has its literals in the order of their lines from the right.
abbrev pub item_commands : List ℕ → Header → List (List ℕ) → List (List ℕ) → ℕ → Item → List Command
item_commands mark h inputs outputs place (Input own) = cover_command (place + 2) (port_name inputs place ∷ []) (variable_name mark (own / 2)) (One ∷ []) ∷ []
item_commands mark h inputs outputs place (Latch own next init) =
    literal_command mark (place + 2) next (next_name mark (place - h.inputs))
    ∷ latch_command (place + 2) (next_name mark (place - h.inputs)) (variable_name mark (own / 2)) init ∷ []
item_commands mark h inputs outputs place (Output l) = literal_command mark (place + 2) l (port_name outputs (place - (h.inputs + h.latches))) ∷ []
item_commands mark h inputs outputs place (And own left right) =
    cover_command (place + 2) (variable_name mark (right / 2) ∷ variable_name mark (left / 2) ∷ []) (variable_name mark (own / 2)) (cell_of right ∷ cell_of left ∷ []) ∷ []

-- of lines the first of which stands at a place
abbrev pub commands_from : List ℕ → Header → List (List ℕ) → List (List ℕ) → ℕ → List Item → List Command
commands_from mark h inputs outputs place [] = []
commands_from mark h inputs outputs place (item ∷ items) = item_commands mark h inputs outputs place item ++ commands_from mark h inputs outputs (place + 1) items

-- variable 0 is constant 0
abbrev pub commands_of : List ℕ → Circuit → List Command
commands_of mark c = zero_command 1 (variable_name mark 0) ∷ commands_from mark c.header c.inputs c.outputs 0 c.items

abbrev pub model_of : Circuit → ModelValue
model_of c = record { name = codes "aag"; line = 1; inputs = c.inputs; outputs = c.outputs; clocks = []; commands = commands_of (mark_of (c.inputs ++ c.outputs)) c }

abbrev pub library_of : Circuit → LibraryValue
library_of c = record { models = model_of c ∷ [] }

-- what this model weighs: 1 for itself, 1 for constant 0, 3 for each input, output and AND gate, and 4 for each latch
abbrev pub library_weight : Header → ℕ
library_weight h = 2 + 3 * h.inputs + 4 * h.latches + 3 * h.outputs + 3 * h.ands
