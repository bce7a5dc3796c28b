-- What a port of configuration bits means, and what a write does.
use Rattle.std.specs.Prelude.{◌≡◌, ℕ, ◌-◌, ◌^◌, ◌≤◌, List, [], ◌∷◌, Option, None, Result, MatchResult}
use Rattle.tl_io.specs.Content.{extended, HasLength}
use Rattle.tl_io.specs.Counts.{raised}
use Rattle.tl_io.specs.declared.Write.{Write}

-- everything that a port means
pub record PortSeen : Type 0 where
  -- the accepted writes, where they are told
  pub log : Option (List Write)
  -- the number of accepted writes, up to its end
  pub accepted : ℕ
  pub faults : ℕ

-- a port that tells no log and that was sent nothing yet
abbrev pub new_port : PortSeen
new_port = record { log = None; accepted = 0; faults = 0 }

-- one call was accepted: the log and the number of accepted writes grew by this write, and the count of faults is as before
pub record Accepts (old : PortSeen) (write : Write) (new : PortSeen) : Type 0 where
  pub log : new.log ≡ extended old.log (write ∷ [])
  pub accepted : new.accepted ≡ raised old.accepted 1
  pub faults : new.faults ≡ old.faults

-- one call failed: nothing was accepted, and the count of faults grew by one, up to its last value
pub record Fails (old new : PortSeen) : Type 0 where
  pub log : new.log ≡ old.log
  pub accepted : new.accepted ≡ old.accepted
  pub faults : new.faults ≡ raised old.faults 1

-- what one call of a port leaves
abbrev pub Writes : {E : Type 0} → PortSeen → Write → PortSeen → Result Unit E → Type 0
Writes old write new result = MatchResult result (λ _. Accepts old write new) (λ _. Fails old new)

-- the counts have a last value, and the number of accepted writes is the length of the log, where that is told
pub record IsCounted (port : PortSeen) : Type 0 where
  pub end : port.accepted ≤ 2 ^ 64 - 1
  pub faults_end : port.faults ≤ 2 ^ 64 - 1
  pub told : HasLength port.log port.accepted
