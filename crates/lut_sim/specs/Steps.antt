-- The lists that the steps of a cycle write: private helpers of the code.
use Rattle.std.specs.Prelude.{◌≡◌, IsTrue, ℕ, ◌+◌, ◌*◌, ◌^◌, ◌<◌, ◌≤◌, Bool, false, if◌then◌else◌, List, [], ◌∷◌, length, slice_set, slice_index_or}
use Rattle.lut_sim.specs.Words.{In, Lut, TemplateValue}
pub use Rattle.list_laws.specs.Digits.{bit_in as value_in}
use Rattle.lut_sim.specs.declared.shape.Shape.{Shape}
use Rattle.lut_sim.specs.Sources.{is_regular, is_plain, source_value, last_source}
use Rattle.lut_sim.specs.Cycle.{address}
use Rattle.lut_sim.specs.Playable.{IsPlayable}

-- the value of a literal

-- bits as the values of the sources from n on
abbrev pub with_sources : List Bool → ℕ → List Bool → List Bool
with_sources values n [] = values
with_sources values n (b ∷ bs) = with_sources (slice_set values (2 * n) b) (n + 1) bs

-- a table's bit as the value of its literal, unless that is a regular source's
abbrev pub with_table : Shape → List Bool → List Bool → Lut → List Bool
with_table shape config values t = if is_plain shape t.lit.0 then values else slice_set values t.lit.0 (slice_index_or config (address (value_in values) t) false)

-- the LUTs in order
abbrev pub with_tables : Shape → List Bool → List Bool → List Lut → List Bool
with_tables shape config values [] = values
with_tables shape config values (t ∷ ts) = with_tables shape config (with_table shape config values t) ts

-- bits written over a list from a place on
abbrev pub filled : List Bool → ℕ → List Bool → List Bool
filled bits i [] = bits
filled bits i (b ∷ bs) = filled (slice_set bits i b) (i + 1) bs

-- there is room for a table: for its literal, its leaves' literals, and its bits
pub record IsTableInRoom (t : Lut) (bits size : ℕ) : Type 0 where
  pub literal : t.lit.0 < size
  pub leaves : (m : ℕ) → In t.leaves m → 2 * m < size
  pub bits_in : t.base + 2 ^ length t.leaves ≤ bits

-- each regular source has its value
pub record HaveSources (shape : Shape) (inputs states values : List Bool) : Type 0 where
  pub each : (n : ℕ) → IsTrue (is_regular shape n) → value_in values (2 * n) ≡ source_value shape inputs states n

-- there is room for the values of all literals
pub record HasRoom (t : TemplateValue) (shape : Shape) (size : ℕ) : Type 0 where
  pub sources : 2 * last_source shape + 1 < size
  pub tables : (u : Lut) → In t.luts u → u.lit.0 < size

-- what a simulator keeps: the circuit can be played, and its lists have their lengths
pub record KeepsSim (t : TemplateValue) (shape : Shape) (values outputs states : List Bool) : Type 0 where
  pub playable : IsPlayable t shape
  pub room : HasRoom t shape (length values)
  pub outputs_len : length outputs ≡ length t.outputs
  pub states_len : length states ≡ length t.next
