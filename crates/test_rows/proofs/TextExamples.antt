-- Worked examples of the definitions: a text with the library that it denotes, and texts with their refusals.
use Rattle.test_rows.proofs.Common.{◌≡◌, ℕ, true, List, [], ◌∷◌, codes, Some, refl, ap, inl, inr, arith, Zero, Any, Cover, CoverValue, ModelValue, LibraryValue, Ports, input_ports, output_ports, clock_ports, ports_of}
use Rattle.tl_text.specs.LineValue.{LineValue}
use Rattle.blif_read.specs.declared.blif_err.BlifErr.TheVariants.{BadByte, TrailingSlash, NotCommand, Unsupported, OutsideModel, Arity, BadRow, MixedRows, BadLatch, LatchKind, DuplicateModel, DuplicatePort, BadConnection, NoModel}
use Rattle.blif_read.specs.declared.keyword.Keyword.TheVariants as keyword
use Rattle.blif_read.specs.Statement.{StatementValue}
use Rattle.tl_text.specs.Once.{AreOnce}
use Rattle.blif_read.specs.Rows as rows
use Rattle.blif_read.specs.Denotes.{names_in, AreCommands, Denotes}
use Rattle.blif_read.specs.Denotes as denotes
use Rattle.blif_read.specs.ReadFault.{read_fault}

-- a netlist of one cover, line by line
abbrev text : List ℕ
text = codes ".model m\n.inputs a b # two\n.names a b y\n0- 1\n.outputs y\n.end\n"

abbrev lines : List LineValue
lines =
    record { number = 1; tokens = record { start = 0; end = 6 } ∷ record { start = 7; end = 8 } ∷ [] }
    ∷ record { number = 2; tokens = record { start = 9; end = 16 } ∷ record { start = 17; end = 18 } ∷ record { start = 19; end = 20 } ∷ [] }
    ∷ record { number = 3; tokens = record { start = 27; end = 33 } ∷ record { start = 34; end = 35 } ∷ record { start = 36; end = 37 } ∷ record { start = 38; end = 39 } ∷ [] }
    ∷ record { number = 4; tokens = record { start = 40; end = 42 } ∷ record { start = 43; end = 44 } ∷ [] }
    ∷ record { number = 5; tokens = record { start = 45; end = 53 } ∷ record { start = 54; end = 55 } ∷ [] }
    ∷ record { number = 6; tokens = record { start = 56; end = 60 } ∷ [] }
    ∷ []

abbrev a : List ℕ
a = codes "a"

abbrev b : List ℕ
b = codes "b"

abbrev y : List ℕ
y = codes "y"

-- its statements, and its model
abbrev header : StatementValue
header = record { number = 1; keyword = keyword.Model; arguments = codes "m" ∷ [] }

abbrev inputs_line : StatementValue
inputs_line = record { number = 2; keyword = keyword.Inputs; arguments = a ∷ b ∷ [] }

abbrev names_line : StatementValue
names_line = record { number = 3; keyword = keyword.Names; arguments = a ∷ b ∷ y ∷ [] }

abbrev row_line : StatementValue
row_line = record { number = 4; keyword = keyword.Plain; arguments = codes "0-" ∷ codes "1" ∷ [] }

abbrev outputs_line : StatementValue
outputs_line = record { number = 5; keyword = keyword.Outputs; arguments = y ∷ [] }

abbrev end_line : StatementValue
end_line = record { number = 6; keyword = keyword.End; arguments = [] }

abbrev body : List StatementValue
body = inputs_line ∷ names_line ∷ row_line ∷ outputs_line ∷ end_line ∷ []

abbrev not_a : CoverValue
not_a = record { inputs = a ∷ b ∷ []; output = y; value = true; rows = record { cells = Zero ∷ Any ∷ [] } ∷ [] }

abbrev m : ModelValue
m = record { name = codes "m"; line = 1; inputs = a ∷ b ∷ []; outputs = y ∷ []; clocks = []; commands = record { line = 3; body = Cover not_a } ∷ [] }

abbrev library : LibraryValue
library = record { models = m ∷ [] }

ports_are : (p : Ports) → ports_of p m ≡ names_in p body
ports_are input_ports = refl
ports_are output_ports = refl
ports_are clock_ports = refl

abbrev first_byte : List ℕ → ℕ
first_byte [] = 0
first_byte (byte ∷ bytes) = byte

apart : a ≡ b → ⊥
apart e = differ 97 98 refl refl (ap first_byte e)
  where
    differ : (i j : ℕ) → i ≡ 97 → j ≡ 98 → i ≡ j → ⊥
    differ i j is_i is_j h = omega arith

ports_once : (p : Ports) → AreOnce (ports_of p m)
ports_once input_ports = ((λ i. elim i [ inl e ↦ apart e | inr none ↦ none ]), ((λ none. none), tt))
ports_once output_ports = ((λ none. none), tt)
ports_once clock_ports = tt

commands_are : AreCommands body m.commands
commands_are =
    denotes.AreCommands.ports inputs_line _ _ (inl refl)
    (denotes.AreCommands.cover names_line (row_line ∷ []) (outputs_line ∷ end_line ∷ []) _ not_a [] (record { is = refl; names = refl; no_rows = λ e. cc })
    (rows.AreRows.more row_line [] _ [] (rows.IsRow.behind (omega arith) refl refl refl) rows.AreRows.none) refl
    (denotes.AreCommands.ports outputs_line _ _ (inr (inl refl)) (denotes.AreCommands.end end_line refl refl)))

example : Denotes text library
example = record {
  lines = lines;
  lines_are = refl;
  models_are = record {
    models = denotes.AreModels.model header body [] body m [] (record { is = refl; name = refl; line = refl; ports = ports_are; once = ports_once; commands = commands_are }) refl denotes.AreModels.none;
    some = omega arith;
    once = ((λ none. none), tt);
  };
}

-- each refusal once, with its line
bad_byte : read_fault (codes ".model m\n.inputs a\u{7f}\n") ≡ Some (BadByte 2)
bad_byte = refl

slash_before_all_else : read_fault (codes ".gate g\n.inputs a\\ b\n") ≡ Some (TrailingSlash 2)
slash_before_all_else = refl

no_row_of_a_cover : read_fault (codes ".model m\n.inputs a\n1 1\n") ≡ Some (NotCommand 3)
no_row_of_a_cover = refl

unknown_word_in_no_model : read_fault (codes ".gate g\n") ≡ Some (Unsupported 1)
unknown_word_in_no_model = refl

line_behind_an_end : read_fault (codes ".model m\n.end\n.inputs a\n") ≡ Some (OutsideModel 3)
line_behind_an_end = refl

model_of_two_names : read_fault (codes ".model m \\\nn\n") ≡ Some (Arity 1)
model_of_two_names = refl

row_of_another_width : read_fault (codes ".model m\n.names a y\n11 1\n") ≡ Some (BadRow 3)
row_of_another_width = refl

row_with_another_output : read_fault (codes ".model m\n.names a y\n1 1\n0 0\n") ≡ Some (MixedRows 4)
row_with_another_output = refl

type_before_init : read_fault (codes ".model m\n.latch d q xe clk 4\n") ≡ Some (BadLatch 2)
type_before_init = refl

latch_of_another_kind : read_fault (codes ".model m\n.latch d q fe clk 4\n") ≡ Some (LatchKind 2)
latch_of_another_kind = refl

model_that_began_earlier : read_fault (codes ".model m\n.end\n.model m\n") ≡ Some (DuplicateModel 3 (codes "m"))
model_that_began_earlier = refl

port_that_stands_twice : read_fault (codes ".model m\n.inputs a \\\n b\n.inputs b\n") ≡ Some (DuplicatePort 4 (codes "b"))
port_that_stands_twice = refl

formal_that_stands_twice : read_fault (codes ".model m\n.subckt s f=a f=b\n") ≡ Some (BadConnection 2)
formal_that_stands_twice = refl

comments_alone : read_fault (codes "# one\n\n") ≡ Some NoModel
comments_alone = refl
