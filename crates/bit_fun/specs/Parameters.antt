-- The parameters of a graph in the order of its sources, so that a list has one value for each of them.
use Rattle.std.specs.Prelude.{◌≡◌, ℕ, suc, ◌-◌, List, [], ◌∷◌, take}
use Rattle.bit_fun.specs.Words.{Kind, Regular, Parameter, Aig, IsSource}

-- how many of some sources are parameters
abbrev pub param_count : List Kind → ℕ
param_count [] = 0
param_count (Regular ∷ kinds) = param_count kinds
param_count (Parameter ∷ kinds) = suc (param_count kinds)

-- n is the parameter at the place j: j parameters stand before it
pub record IsParam (g : Aig) (j n : ℕ) : Type 0 where
  pub source : IsSource g Parameter n
  pub place : param_count (take (n - 1) g.kinds) ≡ j
