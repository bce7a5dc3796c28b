-- A device and what it is behind by: marks at exactly the addresses at which its configuration differs from the wanted one, and how many these are.
use Rattle.std.specs.Prelude.{◌≡◌, ℕ, ◌+◌, ◌-◌, ◌<◌, ◌≤◌, Bool, true, false, not, List, [], ◌∷◌, ◌++◌, length, slice_set}
use Rattle.pace_core.specs.Words.{Write, written, config_bit, differs_at, differences}
use Rattle.ppc_pack.specs.declared.pack.TheConstants.{MOST_PACK_BITS}
use Rattle.dirty_idx.specs.Marks.{is_marked}

pub record BacklogValue : Type 0 where
  pub config : List Bool
  pub marks : List Bool
  pub waiting : ℕ
  -- the writes of the last tick that waited
  pub writes : List Write
  -- how often an address was looked at
  pub looks : ℕ

pub record IsBehind (b : BacklogValue) (wanted : List Bool) : Type 0 where
  pub same : length b.config ≡ length wanted
  pub marks : length b.marks ≡ length wanted
  pub marked : (address : ℕ) → differs_at b.config wanted address ≡ true → is_marked b.marks address ≡ true
  pub only : (address : ℕ) → is_marked b.marks address ≡ true → differs_at b.config wanted address ≡ true
  pub waiting : b.waiting ≡ length (differences b.config wanted)

-- some configuration is wanted of it
pub record IsLate (b : BacklogValue) : Type 0 where
  pub wanted : List Bool
  pub behind : IsBehind b wanted

-- a configuration has no more bits than a pack, and there is room for a write of each
pub record HasRoom (config : List Bool) (capacity : ℕ) : Type 0 where
  pub few : length config ≤ MOST_PACK_BITS
  pub room : length config ≤ capacity

-- a wanted bit turns: the device is behind a configuration in which it is the other one
pub record IsTurn (b : BacklogValue) (write : Write) : Type 0 where
  pub from : List Bool
  pub behind : IsBehind b from
  pub within : write.address < length from
  pub other : config_bit from write.address ≡ not write.bit

-- the device is behind a configuration that these bits make another one of
pub record AreTurns (b : BacklogValue) (changed : List Write) : Type 0 where
  pub from : List Bool
  pub behind : IsBehind b from
  pub to : List Bool
  pub same : length from ≡ length to
  pub are : changed ≡ differences from to

-- one more bit sent, to an address that was marked
abbrev pub with_write : BacklogValue → ℕ → Bool → BacklogValue
with_write b address bit = record { config = slice_set b.config address bit; marks = slice_set b.marks address false; waiting = b.waiting - 1; writes = b.writes ++ record { address = address; bit = bit } ∷ []; looks = b.looks + 1 }

-- The first of the differences is sent, whose mark is taken.
pub record IsCaughtUp (wanted : List Bool) (old new : BacklogValue) : Type 0 where
  pub behind : IsBehind new wanted
  pub sent : List Write
  pub one : length sent ≡ 1
  pub before : differences old.config wanted ≡ sent ++ differences new.config wanted
  pub writes : new.writes ≡ old.writes ++ sent
  pub config : new.config ≡ written old.config sent

-- Some of the differences are sent, from the first one on.
pub record IsCatchingUp (wanted : List Bool) (old new : BacklogValue) : Type 0 where
  pub behind : IsBehind new wanted
  pub are : new.writes ++ differences new.config wanted ≡ differences old.config wanted
  pub config : new.config ≡ written old.config new.writes
