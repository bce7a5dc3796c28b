-- Calls of C at a handle: the host before and after.
use Rattle.std.specs.Prelude.{◌≡◌, ◌≢◌, ℕ, ◌<◌, ◌≤◌, Bool, List, length, map, Option, Some, None, slice_get}
use Rattle.tlut_host.specs.Words.{IsConf, SpecialiserValue, IsUpset, IsScrub}
use Rattle.tl_text.specs.NameIndex.{place_of}
use Rattle.tlut_host.specs.Kept.{param_names}
use Rattle.tlut_host.specs.Copied.{copied_by, copied_plain}
use Rattle.tlut_host.specs.Settings.{IsChange, settings_status, assign_of}
use Rattle.tlut_host.specs.declared.setting.ParameterSetting.{ParameterSetting}
use Rattle.tlut_host.specs.declared.setting.TheConstants.{DONE, CLOSED, RANGE}
use Rattle.tlut_host.specs.Paced.{PacedValue, IsAsk, IsTick}

-- an open handle stays open, and this is said of its hosts; a call at a closed one answers that it is closed
abbrev pub IsCall : {A : Type 0} → Option A → Option A → ℕ → (A → A → Type 0) → Type 0
IsCall None None status P = status ≡ CLOSED
IsCall None (Some new) status P = ⊥
IsCall (Some old) None status P = ⊥
IsCall (Some old) (Some new) status P = P old new

-- the same of a call that tells something through pointers: at a closed handle what is there stays
abbrev pub IsTellingCall : {A : Type 0} → Option A → Option A → ℕ → Type 0 → (A → A → Type 0) → Type 0
IsTellingCall None None status Stays P = (status ≡ CLOSED) × Stays
IsTellingCall None (Some new) status Stays P = ⊥
IsTellingCall (Some old) None status Stays P = ⊥
IsTellingCall (Some old) (Some new) status Stays P = P old new

-- the same of a call that changes nothing at the host
abbrev pub IsReadCall : {A : Type 0} → Option A → Option A → ℕ → Type 0 → (A → Type 0) → Type 0
IsReadCall old new status Stays P = IsTellingCall old new status Stays (λ h k. (k ≡ h) × P h)

-- values, each made into what C gets by a function, copied as far as there is room, and their number
pub record AreHanded {A B : Type 0} (make : A → B) (values : List A) (before after : List B) (count status : ℕ) : Type 0 where
  pub done : status ≡ DONE
  pub copied : after ≡ copied_by make values before
  pub number : count ≡ length values

-- a call that hands out values of the host
abbrev pub IsCopyCall : {A B H : Type 0} → Option H → Option H → (H → List A) → (A → B) → List B → List B → ℕ → ℕ → ℕ → Type 0
IsCopyCall old new values make before after count told status = IsReadCall old new status ((after ≡ before) × (told ≡ count)) (λ h. AreHanded make (values h) before after told status)

-- how many parameters and configuration bits there are
pub record TellsCounts (h : SpecialiserValue) (parameters bits status : ℕ) : Type 0 where
  pub done : status ≡ DONE
  pub parameters_are : parameters ≡ length h.state.params
  pub bits_are : bits ≡ length h.state.config

-- settings are taken, or the first one that breaks a rule is told, and then nothing changes
pub record IsSetCall (settings : List ParameterSetting) (old new : SpecialiserValue) (status : ℕ) : Type 0 where
  pub answer : status ≡ settings_status (length old.state.params) 0 settings
  pub done : status ≡ DONE → IsChange (map assign_of settings) old new
  pub refused : status ≢ DONE → new ≡ old

-- a bit is flipped, or there is none at the address, and then nothing changes
pub record IsUpsetCall (address : ℕ) (old new : SpecialiserValue) (status : ℕ) : Type 0 where
  pub pack : new.pack ≡ old.pack
  pub done : address < length old.state.config → (status ≡ DONE) × IsUpset address old.state new.writes new.state
  pub range : length old.state.config ≤ address → (status ≡ RANGE) × (new ≡ old)

-- upset bits are corrected
pub record IsScrubCall (old new : SpecialiserValue) (status : ℕ) : Type 0 where
  pub done : status ≡ DONE
  pub pack : new.pack ≡ old.pack
  pub scrub : IsScrub old.pack old.state new.writes new.state
  pub right : IsConf old.pack new.state.params new.state.config

-- the value of a parameter, or there is none of this number, and then nothing is told
pub record IsValueCall (number : ℕ) (values : List Bool) (before after : Bool) (status : ℕ) : Type 0 where
  pub told : number < length values → (status ≡ DONE) × (slice_get values number ≡ Some after)
  pub range : length values ≤ number → (status ≡ RANGE) × (after ≡ before)

-- the name of a parameter, copied, and its length, or there is none of this number, and then nothing is told
pub record IsNameCall (names : List (List ℕ)) (number : ℕ) (before after : List ℕ) (count told : ℕ) (status : ℕ) : Type 0 where
  pub done : (name : List ℕ) → slice_get names number ≡ Some name → (status ≡ DONE) × (after ≡ copied_plain name before) × (told ≡ length name)
  pub range : length names ≤ number → (status ≡ RANGE) × (after ≡ before) × (told ≡ count)

-- the same of a handle's pack
abbrev pub IsNameRead : SpecialiserValue → ℕ → List ℕ → List ℕ → ℕ → ℕ → ℕ → Type 0
IsNameRead h number before after count told status = IsNameCall (param_names h.pack.params) number before after count told status

-- the number of the parameter of a name, or there is none of this name, and then nothing is told
pub record IsNumberCall (names : List (List ℕ)) (name : List ℕ) (before after : ℕ) (status : ℕ) : Type 0 where
  pub told : (place : ℕ) → place_of names name ≡ Some place → (status ≡ DONE) × (after ≡ place)
  pub range : place_of names name ≡ None → (status ≡ RANGE) × (after ≡ before)

-- values are requested, or the first setting that breaks a rule is told, and then nothing changes
pub record IsAskCall (settings : List ParameterSetting) (old new : PacedValue) (before after status : ℕ) : Type 0 where
  pub answer : status ≡ settings_status (length old.params) 0 settings
  pub done : status ≡ DONE → IsAsk (map assign_of settings) old new after
  pub refused : status ≢ DONE → (new ≡ old) × (after ≡ before)

-- the clock ticks
pub record IsTickCall (old new : PacedValue) (is_right : Bool) (status : ℕ) : Type 0 where
  pub done : status ≡ DONE
  pub ticked : IsTick old new is_right
