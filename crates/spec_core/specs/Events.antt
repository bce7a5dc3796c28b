-- The events of the host over a pack: from the parameters' values and the configuration to the next ones, with the writes that an event makes. A configuration is computed from scratch here, by evaluating the pack (`IsConf`).
use Rattle.std.specs.Prelude.{◌≡◌, ℕ, Bool, not, List, [], ◌∷◌}
use Rattle.spec_core.specs.Words.{Assign, Write, assigned, written, PackValue, IsConf}
use Rattle.spec_core.specs.Differences.{config_bit, differences}

-- the parameters' values, and the configuration that the device has, with bits that were upset
pub record HostState : Type 0 where
  pub params : List Bool
  pub config : List Bool

-- Some parameters get values: the writes are the addresses where the configurations specialised from scratch before and after differ, whatever bits are upset.
pub record IsSet (pack : PackValue) (assigns : List Assign) (old : HostState) (writes : List Write) (new : HostState) : Type 0 where
  pub params : new.params ≡ assigned old.params assigns
  pub from : List Bool
  pub before : IsConf pack old.params from
  pub to : List Bool
  pub after : IsConf pack new.params to
  pub are : writes ≡ differences from to
  pub config : new.config ≡ written old.config writes

-- the bit at an address flips, as in fault injection
pub record IsUpset (address : ℕ) (old : HostState) (writes : List Write) (new : HostState) : Type 0 where
  pub params : new.params ≡ old.params
  pub is : writes ≡ record { address = address; bit = not (config_bit old.config address) } ∷ []
  pub config : new.config ≡ written old.config writes

-- The bits that were upset are corrected: the writes are the addresses where the device's configuration differs from the one specialised from scratch.
pub record IsScrub (pack : PackValue) (old : HostState) (writes : List Write) (new : HostState) : Type 0 where
  pub params : new.params ≡ old.params
  pub right : List Bool
  pub conf : IsConf pack old.params right
  pub are : writes ≡ differences old.config right
  pub config : new.config ≡ written old.config writes
