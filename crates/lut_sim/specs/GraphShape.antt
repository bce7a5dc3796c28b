-- When a graph's sources have a shape, and a list has the values of all its sources.
use Rattle.std.specs.Prelude.{◌≡◌, ℕ, ◌++◌, IsTrue, Bool, List, length}
use Rattle.aig_core.specs.Aig.{Aig, IsSource}
use Rattle.lut_sim.specs.Words.{lits_of, IsMapping, TemplateValue, In}
use Rattle.aig_core.specs.declared.lit.Kind.TheVariants.{Regular}
use Rattle.lut_sim.specs.Playable.{IsPlayable}
use Rattle.lut_sim.specs.declared.shape.Shape.{Shape}
use Rattle.lut_sim.specs.Sources.{is_regular, last_source}

-- the graph has as many sources as the shape, and those that the shape says to be regular are
pub record HasShape (g : Aig) (shape : Shape) : Type 0 where
  pub count : length g.kinds ≡ last_source shape
  pub to_regular : (n : ℕ) → IsTrue (is_regular shape n) → IsSource g Regular n
  pub from_regular : (n : ℕ) → IsSource g Regular n → IsTrue (is_regular shape n)

-- the values of the regular inputs, the parameters and the latches, in their order
pub record AreSourceValues (shape : Shape) (inputs params states sources : List Bool) : Type 0 where
  pub inputs_len : length inputs ≡ shape.regular
  pub params_len : length params ≡ shape.params
  pub states_len : length states ≡ shape.latches
  pub all : sources ≡ inputs ++ (params ++ states)

-- a template can be played if its LUTs map a graph for roots that include its outputs and next states, of which there are so many
abbrev pub PlaysRoots : Aig → ℕ → List ℕ → ℕ → TemplateValue → Shape → Type 0
PlaysRoots g k roots latches t shape =
    IsMapping g k roots t.luts t.bits → ((l : ℕ) → In (lits_of t.outputs) l → In roots l) → ((l : ℕ) → In (lits_of t.next) l → In roots l) → length t.next ≡ latches → IsPlayable t shape

-- one of a graph of this shape, which has a next state for each latch
abbrev pub PlaysMapping : Aig → ℕ → List ℕ → TemplateValue → Shape → Type 0
PlaysMapping g k roots t shape = HasShape g shape → PlaysRoots g k roots shape.latches t shape
