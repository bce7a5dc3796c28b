-- A send of writes, played over the answers of the ports' calls.
use Rattle.std.specs.Prelude.{◌≡◌, ℕ, Bool, true, false, List, [], ◌∷◌, ◌++◌, Result, MatchResult}
use Rattle.port_bank.specs.Words.{PortSeen, Write}
use Rattle.port_bank.specs.declared.bank.PortFault.{PortFault}
use Rattle.port_bank.specs.Regions.{region_of, region, outside}
use Rattle.port_bank.specs.Bank.{BankSeen, bank_width, Called, Replaced, Retired}

-- After these answers the writes that are left are still to be made, in a bank that has come so far. A write goes to the serving port of its region. Where that port fails, a spare takes its place, and then its whole region is to be written from the configuration, and no other write of that region.
pub data Sends (width : ℕ) (config : List Bool) (writes : List Write) (old : BankSeen) : List Bool → List Write → BankSeen → Type 0 where
  start : Sends width config writes old [] writes old
  accepted : {answers : List Bool} {write : Write} {left : List Write} {mid new : BankSeen} →
      Sends width config writes old answers (write ∷ left) mid →
      Called (region_of width write) write true mid new →
      Sends width config writes old (answers ++ true ∷ []) left new
  replaced : {answers : List Bool} {write : Write} {left : List Write} {mid next new : BankSeen} →
      Sends width config writes old answers (write ∷ left) mid →
      Called (region_of width write) write false mid next →
      Replaced (region_of width write) next new →
      Sends width config writes old (answers ++ false ∷ []) (region width config (region_of width write) ++ outside width (region_of width write) left) new

-- some answers lead so far
pub record Reaches (width : ℕ) (config : List Bool) (writes : List Write) (old : BankSeen) (left : List Write) (new : BankSeen) : Type 0 where
  pub answers : List Bool
  pub sends : Sends width config writes old answers left new

-- after some answers the port of a region fails while no spare is left
pub record Loses (width : ℕ) (config : List Bool) (writes : List Write) (old : BankSeen) (i : ℕ) (new : BankSeen) : Type 0 where
  pub answers : List Bool
  pub write : Write
  pub left : List Write
  pub mid : BankSeen
  pub next : BankSeen
  pub sends : Sends width config writes old answers (write ∷ left) mid
  pub place : region_of width write ≡ i
  pub failed : Called (region_of width write) write false mid next
  pub retired : Retired (region_of width write) next new

-- the writes that have a port: none where no port serves
abbrev pub with_port : List PortSeen → List Write → List Write
with_port [] writes = []
with_port (port ∷ ports) writes = writes

-- these writes of a configuration are sent: all of them are made, or a region loses its port
abbrev pub Plays : List Bool → List Write → BankSeen → BankSeen → Result Unit PortFault → Type 0
Plays config writes old new result = MatchResult result
    (λ _. Reaches (bank_width old config) config (with_port old.serving writes) old [] new)
    (λ fault. Loses (bank_width old config) config (with_port old.serving writes) old fault.region new)
