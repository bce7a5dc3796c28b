-- The two netlists that are written: the specialised one, whose LUTs are fixed, and the template, in which each bit of a LUT is an input.
use Rattle.std.specs.Prelude.{ℕ, ◌+◌, ◌-◌, ◌*◌, ◌^◌, suc, Bool, true, false, if◌then◌else◌, List, [], ◌∷◌, ◌++◌, length, map, filter, replicate, slice_index_or, bytes_eq, Option, Some, None}
use Rattle.std.specs.List.{range_with_len}
use Rattle.list_laws.specs.Digits.{digit}
use Rattle.blif_write.specs.Words.{Cell, RowValue, CoverValue, OutPort, FlatLatch, FlatValue, Param, Lit, Lut, TemplateValue}
use Rattle.netlist.specs.declared.cell.Cell.TheVariants.{Zero, One, Any}
use Rattle.netlist.specs.declared.latch.Latch.{Latch as LatchValue}
use Rattle.blif_write.specs.PlainNetlist.{PlainNetlist}
use Rattle.blif_write.specs.OwnNames.{Naming, naming_of, table_name, latch_name, bit_name, literal_name}

-- the cells that ask for the binary digits of v, leaf 0 the lowest
abbrev pub digit_cell : Bool → Cell
digit_cell bit = if bit then One else Zero

abbrev pub digit_cells : ℕ → ℕ → List Cell
digit_cells leaves v = map (λ place. digit_cell (digit v place)) (range_with_len 0 leaves)

abbrev pub leaf_names : Naming → Lut → List (List ℕ)
leaf_names g t = map (λ m. literal_name g (2 * m)) t.leaves

-- A table whose bits are fixed: a row for each leaf values v whose bit is 1, ascending.
abbrev pub fixed_rows : List Bool → ℕ → ℕ → List RowValue
fixed_rows config base leaves = map (λ v. record { cells = digit_cells leaves v }) (filter (λ v. slice_index_or config (base + v) false) (range_with_len 0 (2 ^ leaves)))

abbrev pub fixed_table : Naming → List Bool → Lut → CoverValue
fixed_table g config t = record { inputs = leaf_names g t; output = table_name g t.lit.0; value = true; rows = fixed_rows config t.base (length t.leaves) }

-- A table whose bits are further inputs: for each leaf values v a row that asks for bit v.
abbrev pub chosen_cells : ℕ → ℕ → List Cell
chosen_cells bits v = replicate v Any ++ One ∷ replicate (bits - suc v) Any

abbrev pub tunable_rows : ℕ → List RowValue
tunable_rows leaves = map (λ v. record { cells = digit_cells leaves v ++ chosen_cells (2 ^ leaves) v }) (range_with_len 0 (2 ^ leaves))

abbrev pub bit_names : Naming → Lut → List (List ℕ)
bit_names g t = map (bit_name g) (range_with_len t.base (2 ^ length t.leaves))

abbrev pub tunable_table : Naming → Lut → CoverValue
tunable_table g t = record { inputs = leaf_names g t ++ bit_names g t; output = table_name g t.lit.0; value = true; rows = tunable_rows (length t.leaves) }

-- An output whose name isn't its root's is a wire from there: one cover, whose row is `1 1`.
abbrev pub wire_of : List ℕ → List ℕ → CoverValue
wire_of root name = record { inputs = root ∷ []; output = name; value = true; rows = record { cells = One ∷ [] } ∷ [] }

abbrev pub wire : List ℕ → List ℕ → List CoverValue
wire root name = if bytes_eq name root then [] else wire_of root name ∷ []

abbrev pub wires : Naming → List OutPort → List Lit → List CoverValue
wires g [] lits = []
wires g (o ∷ os) [] = []
wires g (o ∷ os) (lit ∷ lits) = wire (literal_name g lit.0) o.name ++ wires g os lits

-- the latches from an ordinal on, with the literals of their next states
abbrev pub clock_of : Option (List ℕ) → Bool → Option (List ℕ)
clock_of control clocked = if clocked then control else None

abbrev pub written_latch : Naming → Option (List ℕ) → ℕ → FlatLatch → Lit → LatchValue
written_latch g control ordinal l next = record { input = literal_name g next.0; output = latch_name g ordinal; control = clock_of control l.clocked; init = l.init }

abbrev pub written_latches : Naming → Option (List ℕ) → ℕ → List FlatLatch → List Lit → List LatchValue
written_latches g control ordinal [] nexts = []
written_latches g control ordinal (l ∷ ls) [] = []
written_latches g control ordinal (l ∷ ls) (next ∷ nexts) =
    written_latch g control ordinal l next ∷ written_latches g control (suc ordinal) ls nexts

-- the regular inputs, and the net of the latch controls where there is one
abbrev pub control_names : Option (List ℕ) → List (List ℕ)
control_names None = []
control_names (Some name) = name ∷ []

abbrev pub with_tables : FlatValue → List Param → TemplateValue → List (List (List ℕ)) → List CoverValue → PlainNetlist
with_tables flat params t bits tables = record {
  name = flat.model;
  inputs = ((naming_of flat params).regular ++ control_names flat.control) ∷ bits;
  outputs = map (λ (o : OutPort). o.name) flat.outputs;
  latches = written_latches (naming_of flat params) flat.control 0 flat.latches t.next;
  covers = tables ++ wires (naming_of flat params) flat.outputs t.outputs;
}

abbrev pub specialised_netlist : FlatValue → List Param → TemplateValue → List Bool → PlainNetlist
specialised_netlist flat params t config = with_tables flat params t [] (map (fixed_table (naming_of flat params) config) t.luts)

abbrev pub template_netlist : FlatValue → List Param → TemplateValue → PlainNetlist
template_netlist flat params t = with_tables flat params t (map (bit_names (naming_of flat params)) t.luts) (map (tunable_table (naming_of flat params)) t.luts)
