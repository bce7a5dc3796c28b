-- Counts of 64 bits, which stand still at their last value.
use Rattle.std.specs.Prelude.{ℕ, ◌+◌, ◌-◌, ◌^◌, min, max}

-- a number as a count shows it
abbrev pub count_of : ℕ → ℕ
count_of n = min n (2 ^ 64 - 1)

-- a count that grew by n, up to its last value; a count that stands beyond it stays
abbrev pub raised : ℕ → ℕ → ℕ
raised count n = max count (min (count + n) (2 ^ 64 - 1))
