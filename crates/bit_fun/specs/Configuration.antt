-- The configuration under the parameters' values: all bits in the order of their addresses.
use Rattle.std.specs.Prelude.{◌≡◌, ℕ, ◌<◌, Bool, false, List, length, slice_index_or}
use Rattle.bit_fun.specs.Words.{Aig, Lut, Param, IsMapping, bits_of, value_of, FitsGraph, Shape}
use Rattle.bit_fun.specs.BitFunction.{IsBit, HasOneBit}
use Rattle.bit_fun.specs.Parameters.{param_count}
use Rattle.cover_pick.specs.Work.{IsMakeable}
use Rattle.param_list.specs.Parameters.{AreNamed}
use Rattle.lut_sim.specs.Cycle.{FitsTables}
use Rattle.lut_sim.specs.GraphShape.{HasShape, AreSourceValues}

-- the tables map the graph for some roots
pub record IsMapped (g : Aig) (luts : List Lut) : Type 0 where
  pub k : ℕ
  pub roots : List ℕ
  pub bits : ℕ
  pub mapping : IsMapping g k roots luts bits

-- A configuration has the bit of each address.
pub record IsConfiguration (g : Aig) (luts : List Lut) (params bits : List Bool) : Type 0 where
  pub count : length bits ≡ bits_of luts
  pub each : (b : ℕ) → b < bits_of luts → IsBit g luts params b (slice_index_or bits b false)

-- There is one configuration under these values of the parameters, and no other.
pub record HasOneConfiguration (g : Aig) (luts : List Lut) (params : List Bool) : Type 0 where
  pub bits : List Bool
  pub is : IsConfiguration g luts params bits
  pub only : (others : List Bool) → IsConfiguration g luts params others → others ≡ bits

-- under any values of the parameters there is one bit at each address
abbrev pub HasEachBit : Aig → List Lut → Type 0
HasEachBit g luts = (given : List Bool) → length given ≡ param_count g.kinds → (b : ℕ) → b < bits_of luts → HasOneBit g luts given b

-- what a pack is made from: LUTs that map the graph, whose work is within the limit, and a name for each parameter
pub record HaveFunctions (g : Aig) (luts : List Lut) (params : List Param) : Type 0 where
  pub mapped : IsMapped g luts
  pub light : IsMakeable g luts
  pub count : param_count g.kinds ≡ length params
  pub names : AreNamed params

-- The law of a configuration: whatever values the regular sources have, the values of the graph's literals fit the LUTs under it.

-- `params` has the parameters' values that the configuration was made for
abbrev pub IsLawful : Aig → List Lut → List Bool → List Bool → Type 0
IsLawful g luts params config =
    (shape : Shape) (inputs states sources values : List Bool) → HasShape g shape → AreSourceValues shape inputs params states sources → FitsGraph g sources values
    → FitsTables luts shape config inputs states (value_of values)
