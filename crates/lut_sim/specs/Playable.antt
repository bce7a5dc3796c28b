-- What a template and a shape must agree on before a cycle can be played.
use Rattle.std.specs.Prelude.{◌≡◌, ℕ, ◌*◌, ◌/◌, ◌<◌, ◌⊎◌, IsTrue, length}
use Rattle.lut_sim.specs.Words.{In, lits_of, Lut, TemplateValue, AscendByLit, HaveBases, HasLut, bits_of}
use Rattle.lut_sim.specs.declared.shape.Shape.{Shape}
use Rattle.lut_sim.specs.Sources.{last_source, is_regular, is_plain}

-- a root is the positive literal of a regular source, or has a table
abbrev pub HasValue : TemplateValue → Shape → ℕ → Type 0
HasValue t shape l = IsTrue (is_plain shape l) ⊎ HasLut t.luts l

-- a circuit whose tables can be played once, ascending, so that each finds the values of its leaves
pub record IsPlayable (t : TemplateValue) (shape : Shape) : Type 0 where
  -- one next state a latch
  pub latches : length t.next ≡ shape.latches
  -- a leaf is a regular source, or stands above all sources
  pub leaves : (u : Lut) (m : ℕ) → In t.luts u → In u.leaves m → IsTrue (is_regular shape m) ⊎ (last_source shape < m)
  -- such a leaf is below its table's node, and its positive literal has a table
  pub below : (u : Lut) (m : ℕ) → In t.luts u → In u.leaves m → last_source shape < m → m < u.lit.0 / 2
  pub fed : (u : Lut) (m : ℕ) → In t.luts u → In u.leaves m → last_source shape < m → HasLut t.luts (2 * m)
  -- the LUTs ascend by their literals, and their bases and bits are the sums of the bits before
  pub ascending : AscendByLit t.luts
  pub bases : HaveBases 0 t.luts
  pub sum : t.bits ≡ bits_of t.luts
  pub outputs : (l : ℕ) → In (lits_of t.outputs) l → HasValue t shape l
  pub next : (l : ℕ) → In (lits_of t.next) l → HasValue t shape l
