-- What a port's log shows, and the configuration that a bank holds.
use Rattle.std.specs.Prelude.{◌≡◌, ℕ, ◌/◌, ◌==◌, if◌then◌else◌, Bool, List, [], ◌∷◌, slice_get, Option, None, Some}
use Rattle.port_bank.specs.Words.{Write, PortSeen, written}
use Rattle.port_bank.specs.Bank.{BankSeen, bank_width}

-- the first that is there
abbrev pub first_of : Option Bool → Option Bool → Option Bool
first_of None other = other
first_of (Some bit) other = Some bit

-- the image of a log: the value written last at an address
abbrev pub image : List Write → ℕ → Option Bool
image [] address = None
image (write ∷ writes) address = first_of (image writes address) (if write.address == address then Some write.bit else None)

-- each serving port that tells its log shows its region of the configuration, where regions have this width
pub record ShowsRegions (width : ℕ) (config : List Bool) (bank : BankSeen) : Type 0 where
  pub shows : (i address : ℕ) (port : PortSeen) (log : List Write) (bit : Bool) → slice_get bank.serving i ≡ Some port → port.log ≡ Some log →
      address / width ≡ i → slice_get config address ≡ Some bit → image log address ≡ Some bit

-- the bank holds a configuration
abbrev pub Holds : List Bool → BankSeen → Type 0
Holds config bank = ShowsRegions (bank_width bank config) config bank

-- what a bank held before some writes, it holds with them
abbrev pub KeepsHolding : List Bool → List Write → BankSeen → BankSeen → Type 0
KeepsHolding config writes old new = (before : List Bool) → Holds before old → config ≡ written before writes → Holds config new
