-- Writes of configuration bits, and a configuration that takes them.
use Rattle.std.specs.Prelude.{◌≡◌, ℕ, ◌+◌, Bool, List, [], ◌∷◌, Some, slice_get, slice_set, map}
use Rattle.list_laws.specs.Members.{In}
use Rattle.list_laws.specs.Order.{IsAscending}
use Rattle.tl_io.specs.declared.Write.{Write}

abbrev pub address_of : Write → ℕ
address_of write = write.address

-- the addresses ascend
abbrev pub AreAscending : List Write → Type 0
AreAscending writes = IsAscending (map address_of writes)

-- each write is a bit of the configuration
pub record AreBitsOf (config : List Bool) (writes : List Write) : Type 0 where
  pub bits : (write : Write) → In writes write → slice_get config write.address ≡ Some write.bit

-- a configuration with these writes taken
abbrev pub written : List Bool → List Write → List Bool
written config [] = config
written config (write ∷ writes) = written (slice_set config write.address write.bit) writes

-- the bits from an address on, each with its address
abbrev pub writes_from : ℕ → List Bool → List Write
writes_from address [] = []
writes_from address (bit ∷ bits) = record { address = address; bit = bit } ∷ writes_from (address + 1) bits
