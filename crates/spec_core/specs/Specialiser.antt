-- What a specialiser is seen as.
use Rattle.std.specs.Prelude.{ℕ, List}
use Rattle.spec_core.specs.Words.{Write, PackValue}
use Rattle.spec_core.specs.Events.{HostState}

-- its pack, the parameters' values and the configuration, the writes of the last event that makes writes, and how many pairs were read since it was made
pub record SpecialiserValue : Type 0 where
  pub pack : PackValue
  pub state : HostState
  pub writes : List Write
  pub reads : ℕ
