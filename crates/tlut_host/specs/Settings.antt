-- New values of parameters as C gives them, and the change that they make.
use Rattle.std.specs.Prelude.{◌≡◌, ℕ, ◌+◌, List, [], ◌∷◌, nat_le, nat_lt, if◌then◌else◌}
use Rattle.tlut_host.specs.Words.{Assign, IsConf, SpecialiserValue, IsSet, IsWithinTouched}
use Rattle.tlut_host.specs.declared.setting.ParameterSetting.{ParameterSetting}
use Rattle.tlut_host.specs.declared.setting.TheConstants.{DONE, RANGE, ORDER}

abbrev pub assign_of : ParameterSetting → Assign
assign_of s = record { param = s.parameter; bit = s.bit }

-- The status of settings for this many parameters, the first one at least `next`: each parameter is one of them, and after those before it.
abbrev pub settings_status : ℕ → ℕ → List ParameterSetting → ℕ
settings_status params next [] = DONE
settings_status params next (s ∷ ss) =
    if nat_le params s.parameter then RANGE else if nat_lt s.parameter next then ORDER else settings_status params (s.parameter + 1) ss

-- a change: the pack stays, and the writes, the values and the configuration are those of `IsSet`; nodes are read as `IsWithinTouched` allows; if no bit was upset before, none is after
pub record IsChange (assigns : List Assign) (old new : SpecialiserValue) : Type 0 where
  pub pack : new.pack ≡ old.pack
  pub set : IsSet old.pack assigns old.state new.writes new.state
  pub steps : ℕ
  pub reads : new.reads ≡ old.reads + steps
  pub cost : IsWithinTouched old.pack.graph old.state.params new.state.params 0 steps
  pub steady : IsConf old.pack old.state.params old.state.config → IsConf old.pack new.state.params new.state.config
