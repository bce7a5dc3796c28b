-- Which calls of an object in memory are to fail.
use Rattle.std.specs.Prelude.{ℕ, ◌+◌, ◌/◌, Bool, if◌then◌else◌, List, length, take, ◌==◌}
use Rattle.std.specs.List.{list_any}
use Rattle.tl_io.specs.Counts.{count_of}

-- the numbers of the calls that are to fail, and the number of the next call
pub record Plan : Type 0 where
  pub fails : List ℕ
  pub calls : ℕ

-- the next call is to fail
abbrev pub fails_next : Plan → Bool
fails_next plan = list_any (λ k. k == plan.calls) plan.fails

-- the plan after one more call
abbrev pub after_call : Plan → Plan
after_call plan = record plan { calls = count_of (plan.calls + 1) }

-- what the next call takes of a piece that there is room for: half where it is to fail
abbrev pub taken_of : Plan → List ℕ → List ℕ
taken_of plan piece = if fails_next plan then take (length piece / 2) piece else piece
