-- The names in a written netlist. The regular inputs and the outputs have their own; LUTs, latches and configuration bits have names
-- that begin with more underscores than any port's.
use Rattle.std.specs.Prelude.{ℕ, suc, ◌+◌, ◌-◌, ◌/◌, nat_le, if◌then◌else◌, List, [], ◌∷◌, ◌++◌, length, replicate, slice_index_or, decimal}
use Rattle.blif_write.specs.Words.{FlatValue, Param, regular_names}
use Rattle.lut_sim.specs.declared.shape.Shape.{Shape}
use Rattle.lut_sim.specs.Sources.{is_plain}

-- what names are made from: the most underscores (95) that a port's name begins with, the regular inputs, and the sources' shape
pub record Naming : Type 0 where
  pub under : ℕ
  pub regular : List (List ℕ)
  pub shape : Shape

abbrev pub naming_of : FlatValue → List Param → Naming
naming_of flat params = record {
  under = flat.under;
  regular = regular_names flat params;
  shape = record { regular = length (regular_names flat params); params = length params; latches = length flat.latches };
}

-- one underscore more, a letter and a number
abbrev pub own_name : Naming → ℕ → ℕ → List ℕ
own_name g letter number = replicate (suc g.under) 95 ++ letter ∷ decimal number

-- the table of a literal (`n`), the latch of an ordinal (`l`), the configuration bit of an address (`c`)
abbrev pub table_name : Naming → ℕ → List ℕ
table_name g lit = own_name g 110 lit

abbrev pub latch_name : Naming → ℕ → List ℕ
latch_name g ordinal = own_name g 108 ordinal

abbrev pub bit_name : Naming → ℕ → List ℕ
bit_name g address = own_name g 99 address

-- a regular source: an input, or a latch
abbrev pub source_name : Naming → ℕ → List ℕ
source_name g n = if nat_le n g.shape.regular then slice_index_or g.regular (n - 1) [] else latch_name g (n - 1 - (g.shape.regular + g.shape.params))

-- the positive literal of a regular source has the source's name, and each other literal its table's
abbrev pub literal_name : Naming → ℕ → List ℕ
literal_name g lit = if is_plain g.shape lit then source_name g (lit / 2) else table_name g lit
