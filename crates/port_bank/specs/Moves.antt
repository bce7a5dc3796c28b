-- Which ports a send moves, and why.
use Rattle.std.specs.Prelude.{◌≡◌, ◌+◌, ℕ, true, false, List, [], ◌++◌, length, Result, MatchResult}
use Rattle.port_bank.specs.Words.{In, PortSeen, Write}
use Rattle.tl_io.specs.Counts.{raised}
use Rattle.port_bank.specs.declared.bank.PortFault.{PortFault}
use Rattle.port_bank.specs.Bank.{BankSeen, Called, Replaced, Retired}

-- What a bank becomes by calls of its serving ports, one after the other, whatever is written: where a port fails, it leaves, and the first spare takes its place.
pub data Becomes (old : BankSeen) : BankSeen → Type 0 where
  start : Becomes old old
  accepted : {mid new : BankSeen} (i : ℕ) (write : Write) → Becomes old mid → Called i write true mid new → Becomes old new
  replaced : {mid next new : BankSeen} (i : ℕ) (write : Write) → Becomes old mid → Called i write false mid next → Replaced i next new → Becomes old new

-- after such calls a port failed while no spare was left
pub record FallsShort (old new : BankSeen) : Type 0 where
  pub place : ℕ
  pub write : Write
  pub mid : BankSeen
  pub next : BankSeen
  pub becomes : Becomes old mid
  pub failed : Called place write false mid next
  pub retired : Retired place next new

-- what a send leaves
abbrev pub IsLeft : BankSeen → BankSeen → Result Unit PortFault → Type 0
IsLeft old new result = MatchResult result (λ _. Becomes old new) (λ _. FallsShort old new)

-- Ports moved to the failed ones, and each answered Failed exactly once since it served or stood by. Those that serve or stand by did so before, and none of them answered Failed. So as many calls failed as ports moved.
pub record MovesWithCause (old new : BankSeen) : Type 0 where
  pub moved : List PortSeen
  pub behind : new.failed ≡ old.failed ++ moved
  pub cause : (port : PortSeen) → In moved port → (before : PortSeen) × In (old.serving ++ old.spares) before × (port.faults ≡ raised before.faults 1)
  pub stay : (port : PortSeen) → In (new.serving ++ new.spares) port → (before : PortSeen) × In (old.serving ++ old.spares) before × (port.faults ≡ before.faults)

-- every region has a port, and the first spares were used, one for each port that failed
pub record KeepsPlaces (old new : BankSeen) : Type 0 where
  pub serving : length new.serving ≡ length old.serving
  pub used : length new.spares + length new.failed ≡ length old.spares + length old.failed
  pub left : (taken : List PortSeen) × (old.spares ≡ taken ++ new.spares)
  pub rest : new.rest ≡ old.rest

-- all the spares failed, and one port more
pub record LosesPlace (old new : BankSeen) : Type 0 where
  pub serving : length new.serving + 1 ≡ length old.serving
  pub spares : new.spares ≡ []
  pub failed : length new.failed ≡ length old.spares + length old.failed + 1
  pub rest : new.rest ≡ old.rest
