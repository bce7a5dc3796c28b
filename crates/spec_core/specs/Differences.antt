-- Where two configurations differ, as the writes that make the second of the first.
use Rattle.std.specs.Prelude.{ℕ, Bool, List, length, map}
use Rattle.std.specs.List.{filter, range_with_len}
use Rattle.spec_core.specs.Words.{Write, xor}
-- the bit at an address
pub use Rattle.list_laws.specs.Digits.{bit_in as config_bit}

abbrev pub differs_at : List Bool → List Bool → ℕ → Bool
differs_at from to address = xor (config_bit from address) (config_bit to address)

-- the write of a configuration's bit
abbrev pub write_of : List Bool → ℕ → Write
write_of config address = record { address = address; bit = config_bit config address }

-- the addresses at which two configurations differ, ascending, each with the bit of the second
abbrev pub differences : List Bool → List Bool → List Write
differences from to = map (write_of to) (filter (differs_at from to) (range_with_len 0 (length to)))
