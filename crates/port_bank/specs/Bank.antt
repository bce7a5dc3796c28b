-- A bank of ports, and what one call of a port does to it.
use Rattle.std.specs.Prelude.{◌≡◌, ℕ, Bool, true, false, List, [], ◌∷◌, ◌++◌, length, remove, slice_get, slice_set, Some}
use Rattle.port_bank.specs.Words.{PortSeen, Accepts, Fails, Write}
use Rattle.port_bank.specs.Regions.{width}

-- the ports that serve, in the order of their regions, those that stand by, the others, and the failed ones in the order of failure
pub record BankSeen : Type 0 where
  pub serving : List PortSeen
  pub spares : List PortSeen
  pub rest : List PortSeen
  pub failed : List PortSeen

-- all of them
abbrev pub all_ports : BankSeen → List PortSeen
all_ports bank = bank.serving ++ (bank.spares ++ (bank.rest ++ bank.failed))

-- how many addresses each of its regions has, for a configuration
abbrev pub bank_width : BankSeen → List Bool → ℕ
bank_width bank config = width (length bank.serving) (length config)

-- a port was sent a write once, and answered Ok or Failed
abbrev pub Answers : Bool → PortSeen → Write → PortSeen → Type 0
Answers true old write new = Accepts old write new
Answers false old write new = Fails old new

-- the serving port of a region was sent a write once, and answered so; no other port was called
pub record Called (i : ℕ) (write : Write) (answer : Bool) (old new : BankSeen) : Type 0 where
  pub before : PortSeen
  pub after : PortSeen
  pub was : slice_get old.serving i ≡ Some before
  pub answered : Answers answer before write after
  pub now : new ≡ record old { serving = slice_set old.serving i after }

-- the port of a region moved to the end of the failed ones, and the first spare took its place
pub record Replaced (i : ℕ) (old new : BankSeen) : Type 0 where
  pub port : PortSeen
  pub spare : PortSeen
  pub was : slice_get old.serving i ≡ Some port
  pub first : old.spares ≡ spare ∷ new.spares
  pub now : new ≡ record { serving = slice_set old.serving i spare; spares = new.spares; rest = old.rest; failed = old.failed ++ port ∷ [] }

-- the port of a region moved to the end of the failed ones while no spare was left
pub record Retired (i : ℕ) (old new : BankSeen) : Type 0 where
  pub port : PortSeen
  pub was : slice_get old.serving i ≡ Some port
  pub none_left : old.spares ≡ []
  pub now : new ≡ record { serving = remove old.serving i; spares = []; rest = old.rest; failed = old.failed ++ port ∷ [] }
