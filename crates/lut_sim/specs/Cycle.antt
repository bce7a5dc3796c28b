-- One cycle of the LUTs, as a relation between the values of all literals: nothing is played in an order.
use Rattle.std.specs.Prelude.{◌≡◌, ℕ, ◌+◌, ◌*◌, Bool, false, IsTrue, List, length, map, slice_index_or}
use Rattle.lut_sim.specs.Words.{In, lits_of, Lut, TemplateValue}
use Rattle.list_laws.specs.Digits.{number}
use Rattle.machine.specs.Machine.{MealyMachine, reading}
use Rattle.lut_sim.specs.declared.shape.Shape.{Shape}
use Rattle.lut_sim.specs.Sources.{is_regular, is_plain, source_value}

-- the values of a table's leaves: of their positive literals
abbrev pub leaf_values : (ℕ → Bool) → List ℕ → List Bool
leaf_values value leaves = map (λ m. value (2 * m)) leaves

-- the address of a table's bit: its base plus the number of its leaves' values, leaf 0 the lowest digit
abbrev pub address : (ℕ → Bool) → Lut → ℕ
address value t = t.base + number (leaf_values value t.leaves)

-- the values of the literals fit the tables: a regular source has its input or state, and a table the configuration bit at its address
pub record FitsTables (luts : List Lut) (shape : Shape) (config inputs states : List Bool) (value : ℕ → Bool) : Type 0 where
  pub source : (n : ℕ) → IsTrue (is_regular shape n) → value (2 * n) ≡ source_value shape inputs states n
  pub table : (t : Lut) → In luts t → is_plain shape t.lit.0 ≡ false → value t.lit.0 ≡ slice_index_or config (address value t) false

-- the outputs and next states of a cycle are the roots' values under values that fit
pub record IsTableCycle (t : TemplateValue) (shape : Shape) (config inputs states outputs next : List Bool) : Type 0 where
  pub value : ℕ → Bool
  pub fits : FitsTables t.luts shape config inputs states value
  pub outputs_are : outputs ≡ map value (lits_of t.outputs)
  pub next_are : next ≡ map value (lits_of t.next)

-- whatever values fit, the roots have these values under them
pub record IsOnlyTableCycle (t : TemplateValue) (shape : Shape) (config inputs states outputs next : List Bool) : Type 0 where
  pub outputs_are : (value : ℕ → Bool) → FitsTables t.luts shape config inputs states value → outputs ≡ map value (lits_of t.outputs)
  pub next_are : (value : ℕ → Bool) → FitsTables t.luts shape config inputs states value → next ≡ map value (lits_of t.next)

-- what a cycle of LUTs takes: their configuration, and values of the regular inputs
pub record LutInput : Type 0 where
  pub config : List Bool
  pub values : List Bool

-- A cycle takes a value for each regular input and a state for each latch. Some values of the literals fit, and under all that fit the roots have the outputs and next states.
pub record IsLutCycle (t : TemplateValue) (shape : Shape) (x : LutInput) (s outputs next : List Bool) : Type 0 where
  pub inputs : length x.values ≡ shape.regular
  pub states : length s ≡ shape.latches
  pub is : IsTableCycle t shape x.config x.values s outputs next
  pub only : IsOnlyTableCycle t shape x.config x.values s outputs next

-- The machine of LUTs: in each cycle it takes a configuration and values of the regular inputs, and it starts at its latches' inits.
abbrev pub lut_machine : TemplateValue → Shape → List Bool → MealyMachine LutInput (List Bool) (List Bool)
lut_machine t shape inits = record { IsStart = λ s. s ≡ inits; HasCycle = IsLutCycle t shape }

-- under one configuration it takes values of the regular inputs
abbrev pub under : List Bool → MealyMachine LutInput (List Bool) (List Bool) → MealyMachine (List Bool) (List Bool) (List Bool)
under config m = reading (λ values. record { config = config; values = values }) m
