-- A pack whose pairs can only be read by a counted call.
use Rattle.std.specs.Prelude.{ℕ}
use Rattle.ppc_pack.specs.Pack.{PackValue}

-- the pack, and how many readings of its pairs were made
pub record CountedValue : Type 0 where
  pub pack : PackValue
  pub reads : ℕ
