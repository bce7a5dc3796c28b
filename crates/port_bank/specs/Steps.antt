-- Parts of a send: the load of one region, and one write.
use Rattle.std.specs.Prelude.{◌≡◌, ◌≤◌, ℕ, Bool, false, nat_le, List, [], ◌∷◌, ◌++◌, remove, slice_index_or, slice_set}
use Rattle.std.specs.List.{filter}
use Rattle.port_bank.specs.Words.{In, Write}
use Rattle.port_bank.specs.Regions.{region_of, region, outside}
use Rattle.port_bank.specs.Bank.{BankSeen, Called}
use Rattle.port_bank.specs.Send.{Sends, Reaches, Loses}

-- after some answers the port of a region failed, and these writes go to other regions
pub record Breaks (width : ℕ) (config : List Bool) (writes : List Write) (old : BankSeen) (i : ℕ) (others : List Write) (new : BankSeen) : Type 0 where
  pub answers : List Bool
  pub write : Write
  pub left : List Write
  pub mid : BankSeen
  pub sends : Sends width config writes old answers (write ∷ left) mid
  pub place : region_of width write ≡ i
  pub failed : Called (region_of width write) write false mid new
  pub rest : outside width i left ≡ others

-- a region was loaded
pub record Fills (width : ℕ) (config : List Bool) (i : ℕ) (old new : BankSeen) : Type 0 where
  pub on : (writes : List Write) (base : BankSeen) (others : List Write) → Reaches width config writes base (region width config i ++ others) old → Reaches width config writes base others new

-- its port failed in the load
pub record FailsToFill (width : ℕ) (config : List Bool) (i : ℕ) (old new : BankSeen) : Type 0 where
  pub on : (writes : List Write) (base : BankSeen) (others : List Write) → outside width i others ≡ others → Reaches width config writes base (region width config i ++ others) old → Breaks width config writes base i others new

-- a spare took the place of a failed port and was loaded
pub record Mends (width : ℕ) (config : List Bool) (i : ℕ) (old new : BankSeen) : Type 0 where
  pub on : (writes : List Write) (base : BankSeen) (others : List Write) → outside width i others ≡ others → Breaks width config writes base i others old → Reaches width config writes base others new

-- no spare was left for it
pub record FailsToMend (width : ℕ) (config : List Bool) (i : ℕ) (old new : BankSeen) : Type 0 where
  pub on : (writes : List Write) (base : BankSeen) (others : List Write) → outside width i others ≡ others → Breaks width config writes base i others old → Loses width config writes base i new

-- a write goes to a region from this one on
abbrev pub is_from : ℕ → ℕ → Write → Bool
is_from width passed write = nat_le passed (region_of width write)

abbrev pub from_region : ℕ → ℕ → List Write → List Write
from_region width passed writes = filter (is_from width passed) writes

-- the regions of writes don't fall
abbrev pub AreInOrder : ℕ → List Write → Type 0
AreInOrder width [] = Unit {0}
AreInOrder width (write ∷ writes) = ((later : Write) → In writes later → region_of width write ≤ region_of width later) × AreInOrder width writes

-- a write was made, or its region was passed
pub record Steps (width : ℕ) (config : List Bool) (passed : ℕ) (write : Write) (next : ℕ) (old new : BankSeen) : Type 0 where
  pub on : (writes : List Write) (base : BankSeen) (left : List Write) → AreInOrder width (write ∷ left) → Reaches width config writes base (from_region width passed (write ∷ left)) old → Reaches width config writes base (from_region width next left) new

-- its region lost its port
pub record FailsToStep (width : ℕ) (config : List Bool) (passed : ℕ) (write : Write) (i : ℕ) (old new : BankSeen) : Type 0 where
  pub on : (writes : List Write) (base : BankSeen) (left : List Write) → AreInOrder width (write ∷ left) → Reaches width config writes base (from_region width passed (write ∷ left)) old → Loses width config writes base i new

-- the box of a place stands at the end
pub record MovesToEnd {B : Type 0} (i : ℕ) (old new : List B) : Type 0 where
  pub port : B
  pub was : port ≡ slice_index_or old i port
  pub now : new ≡ remove old i ++ port ∷ []

-- a box took the place of another one, which stands at the end
pub record TakesPlace {B : Type 0} (from i : ℕ) (old new : List B) : Type 0 where
  pub spare : B
  pub port : B
  pub was : spare ≡ slice_index_or old from spare
  pub there : port ≡ slice_index_or (remove old from) i port
  pub now : new ≡ slice_set (remove old from) i spare ++ port ∷ []
