-- Opening a pack: the host that it makes, and what is told where it is refused.
use Rattle.std.specs.Prelude.{◌≡◌, ℕ, ◌<◌, List, [], length, Option, Some, None}
use Rattle.ppc_pack.specs.declared.pack.TheConstants.{MOST_PACK_BYTES}
use Rattle.tlut_host.specs.Words.{IsConf, inits_of, IsPackFile, IsPackFault, SpecialiserValue}
use Rattle.ppc_file.specs.declared.pack_err.PackErr.{PackErr}
use Rattle.ppc_file.specs.declared.pack_err.PackErr.TheVariants.{Magic, Version, Truncated, BadName, BadNode, BadBit, Trailing, BadNumber, Memory as NoMemory}
use Rattle.tlut_host.specs.declared.setting.PackRefusal.{PackRefusal}
use Rattle.tlut_host.specs.declared.setting.TheConstants.{REFUSED, LIMIT, MEMORY}
use Rattle.tlut_host.specs.declared.opened.OpenErr.{OpenErr}
use Rattle.tlut_host.specs.declared.opened.OpenErr.TheVariants.{Limit, Memory, Refused}

-- the pack of these bytes, at its initial values, with their configuration, before the first event
pub record IsOpened (bytes : List ℕ) (h : SpecialiserValue) : Type 0 where
  pub file : IsPackFile bytes h.pack
  pub params : h.state.params ≡ inits_of h.pack.params
  pub config : IsConf h.pack (inits_of h.pack.params) h.state.config
  pub writes : h.writes ≡ []

-- the number of the rule of K1 to K8, and the offset
abbrev pub told : PackErr → PackRefusal
told (Magic at) = record { rule = 1; offset = at }
told (Version at) = record { rule = 2; offset = at }
told (Truncated at) = record { rule = 3; offset = at }
told (BadName at) = record { rule = 4; offset = at }
told (BadNode at) = record { rule = 5; offset = at }
told (BadBit at) = record { rule = 6; offset = at }
told (Trailing at) = record { rule = 7; offset = at }
told (BadNumber at) = record { rule = 8; offset = at }
told NoMemory = record { rule = 0; offset = 0 }

abbrev pub status_of : OpenErr → ℕ
status_of Limit = LIMIT
status_of Memory = MEMORY
status_of (Refused e) = REFUSED

abbrev pub told_of : OpenErr → PackRefusal
told_of Limit = record { rule = 0; offset = 0 }
told_of Memory = record { rule = 0; offset = 0 }
told_of (Refused e) = told e

-- why bytes aren't opened
abbrev pub IsOpenFault : List ℕ → OpenErr → Type 0
IsOpenFault bytes Limit = MOST_PACK_BYTES < length bytes
IsOpenFault bytes Memory = Unit {0}
IsOpenFault bytes (Refused e) = IsPackFault bytes e

-- the status and the refusal of bytes that aren't opened
pub record IsTold (bytes : List ℕ) (status : ℕ) (refusal : PackRefusal) : Type 0 where
  pub error : OpenErr
  pub fault : IsOpenFault bytes error
  pub status_is : status ≡ status_of error
  pub refusal_is : refusal ≡ told_of error

-- the handle is to a host of which this is said
abbrev pub HoldsOne : {A : Type 0} → Option A → (A → Type 0) → Type 0
HoldsOne None P = ⊥
HoldsOne (Some h) P = P h
