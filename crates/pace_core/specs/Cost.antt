-- What an event may look at. A step is one reading of a node's pair, or one look at an address of the device.
use Rattle.std.specs.Prelude.{ℕ, ◌+◌, ◌≤◌, Bool, List, length, take}
use Rattle.pace_core.specs.Words.{IsConf, differences}
use Rattle.spec_core.specs.Touched.{IsWithinTouched}
use Rattle.pace_core.specs.EventValue.{PaceValue, Ask, Tick}
use Rattle.pace_core.specs.Pace.{PacerValue}

-- An ask: a step at most for each AND node of the pack with a fan-in that changes, and one for each address at which the configurations specialised from scratch for the values before and after differ.
pub record IsWithinAsk (old new : PacerValue) (start end : ℕ) : Type 0 where
  pub middle : ℕ
  pub nodes : IsWithinTouched old.pack.graph old.params new.params start middle
  pub from : List Bool
  pub before : IsConf old.pack old.params from
  pub to : List Bool
  pub after : IsConf old.pack new.params to
  pub addresses : end ≤ middle + length (differences from to)

-- A tick: a step at most for each bit that it writes, so none at a cycle.
pub record IsWithinTick (old : PacerValue) (start end : ℕ) : Type 0 where
  pub wanted : List Bool
  pub conf : IsConf old.pack old.params wanted
  pub addresses : end ≤ start + length (take old.rate (differences old.config wanted))

abbrev pub IsWithinChange : PaceValue → PacerValue → PacerValue → ℕ → ℕ → Type 0
IsWithinChange (Ask assigns) old new start end = IsWithinAsk old new start end
IsWithinChange (Tick values) old new start end = IsWithinTick old start end
