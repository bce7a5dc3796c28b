-- A host at a limited rate: what it is seen as, what it keeps, and its events. A configuration is computed from scratch here (`IsConf`).
use Rattle.std.specs.Prelude.{◌≡◌, ℕ, ◌+◌, ◌<◌, ◌≤◌, Bool, true, false, List, [], length, take}
use Rattle.tlut_host.specs.Words.{Assign, PackValue, IsConf, HasOneConf, inits_of, IsPackFile, SpecialiserValue, IsWithinTouched}
use Rattle.tl_io.specs.declared.Write.{Write}
use Rattle.tl_io.specs.Assigns.{assigned}
use Rattle.tl_io.specs.Writes.{written}
use Rattle.spec_core.specs.Differences.{differences}
use Rattle.pace_core.specs.Backlog.{BacklogValue, IsBehind}
use Rattle.tlut_host.specs.Settings.{IsChange}

-- its pack, the values that were requested last, the configuration that the device has, the writes of the last tick, how many bits a tick writes, and how many pairs were read and addresses looked at since it was made
pub record PacedValue : Type 0 where
  pub pack : PackValue
  pub params : List Bool
  pub config : List Bool
  pub writes : List Write
  pub rate : ℕ
  pub looks : ℕ

-- the specialiser has the configuration of the requested values, and only one is; the device is behind it by what its marks say
pub record IsPacing (s : SpecialiserValue) (b : BacklogValue) : Type 0 where
  pub right : IsConf s.pack s.state.params s.state.config
  pub one : (given : List Bool) → length given ≡ length s.pack.params → HasOneConf s.pack given
  pub params : length s.state.params ≡ length s.pack.params
  pub behind : IsBehind b s.state.config

-- a paced host keeps this, the number of its parameters, and room for a new value of each
pub record IsPacedKept (s : SpecialiserValue) (b : BacklogValue) (rate params room : ℕ) : Type 0 where
  pub pacing : IsPacing s b
  pub takes : 1 ≤ rate
  pub count : params ≡ length s.state.params
  pub few : params ≤ room

-- values are requested of the specialiser, and of the device the bits that change
pub record IsRequest (assigns : List Assign) (s : SpecialiserValue) (b : BacklogValue) (new : SpecialiserValue) (after : BacklogValue) : Type 0 where
  pub change : IsChange assigns s new
  pub pacing : IsPacing new after
  pub config : after.config ≡ b.config
  pub writes : after.writes ≡ b.writes
  pub looks : after.looks ≡ b.looks + length new.writes

-- the first bits at which the device is behind are written
pub record IsCatchUp (rate : ℕ) (wanted : List Bool) (b after : BacklogValue) : Type 0 where
  pub writes : after.writes ≡ take rate (differences b.config wanted)
  pub config : after.config ≡ written b.config (take rate (differences b.config wanted))
  pub behind : IsBehind after wanted
  pub looks : after.looks ≡ b.looks + length after.writes

-- the pack of these bytes, at its initial values, with their configuration on the device, before the first event
pub record IsPacedOpened (bytes : List ℕ) (rate : ℕ) (h : PacedValue) : Type 0 where
  pub file : IsPackFile bytes h.pack
  pub params : h.params ≡ inits_of h.pack.params
  pub config : IsConf h.pack (inits_of h.pack.params) h.config
  pub writes : h.writes ≡ []
  pub rate_is : h.rate ≡ rate

-- An ask: the requested values change, and nothing is written; `waiting` bits of the device differ from their configuration. It reads at most each AND node of the pack with a fan-in that changes, and looks at most once at each address whose wanted bit changes.
pub record IsAsk (assigns : List Assign) (old new : PacedValue) (waiting : ℕ) : Type 0 where
  pub params : new.params ≡ assigned old.params assigns
  pub wanted : List Bool
  pub conf : IsConf old.pack new.params wanted
  pub waits : waiting ≡ length (differences old.config wanted)
  pub becomes : new ≡ record old { params = new.params; looks = new.looks }
  pub from : List Bool
  pub before : IsConf old.pack old.params from
  pub reads : ℕ
  pub nodes : IsWithinTouched old.pack.graph old.params new.params 0 reads
  pub looks : new.looks ≤ old.looks + reads + length (differences from wanted)

-- A tick: whether the device has the configuration of the requested values, so that the circuit may be clocked. If it hasn't, the first bits that differ are written, at most as many as the rate, and nothing else changes. It looks once at each address that it writes.
pub record IsTick (old new : PacedValue) (is_right : Bool) : Type 0 where
  pub wanted : List Bool
  pub conf : IsConf old.pack old.params wanted
  pub right : is_right ≡ true → old.config ≡ wanted
  pub waits : is_right ≡ false → 0 < length (differences old.config wanted)
  pub writes : new.writes ≡ take old.rate (differences old.config wanted)
  pub becomes : new ≡ record old { config = written old.config new.writes; writes = new.writes; looks = old.looks + length new.writes }
