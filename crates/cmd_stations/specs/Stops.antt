-- Why a stop at a file occurs: its refusal, or that it was not read. Running out of memory is free, and has no refusal.
use Rattle.std.specs.Prelude.{Option, Some, None, IfSome, ◌≡◌, ℕ, ◌<◌, ◌≤◌, List}
use Rattle.cmd_stations.specs.Words.{RefusalValue, File, ShelfSeen, Told, IsReadFault, most_bytes}
use Rattle.cmd_stations.specs.declared.stop.Stop.{Stop}
use Rattle.cmd_stations.specs.declared.stop.Stop.TheVariants.{Refused, Memory}
use Rattle.cmd_base.specs.declared.outcome.Outcome.{Outcome}
use Rattle.cmd_base.specs.declared.outcome.Outcome.TheVariants as outcome
use Rattle.cmd_stations.specs.Texts.{IsOverlong}

abbrev pub refusal_of : Stop → Option RefusalValue
refusal_of (Refused refusal) = Some refusal
refusal_of Memory = None

-- its refusal, if it has one, is one of these
abbrev pub Stops : (RefusalValue → Type 0) → Stop → Type 0
Stops P stop = IfSome (refusal_of stop) P

-- its outcome at a file
abbrev pub outcome_at : File → Stop → Outcome
outcome_at file (Refused refusal) = outcome.Refused file refusal
outcome_at file Memory = outcome.Memory

-- it is too long, it could not be read, or there is no memory
pub data IsUnread (name : List ℕ) (file : File) (old new : ShelfSeen) (o : Outcome) : Type 0 where
  too_long : o ≡ outcome.TooLong file → most_bytes file < new.given → Told old.files (λ files. IsOverlong (most_bytes file) files name) → IsUnread name file old new o
  fault : o ≡ outcome.ReadFault file → new.given ≤ most_bytes file → IsReadFault old new name → IsUnread name file old new o
  memory : o ≡ outcome.Memory → IsUnread name file old new o
