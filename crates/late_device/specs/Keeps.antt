-- What a device keeps: a mark for each bit, and no more bits than may be marked.
use Rattle.std.specs.Prelude.{◌≡◌, ◌≤◌, Bool, List, length}
use Rattle.dirty_idx.specs.declared.tiers.TheConstants.{MOST_MARKS}

pub record Keeps (config marks : List Bool) : Type 0 where
  pub same : length marks ≡ length config
  pub few : length config ≤ MOST_MARKS
