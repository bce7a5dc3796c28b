-- The sources of a shape: the regular inputs, then the parameters, then the latches.
use Rattle.std.specs.Prelude.{ℕ, ◌+◌, ◌-◌, ◌/◌, ◌%◌, Bool, false, ◌&&◌, ◌||◌, nat_lt, nat_le, ◌==◌, if◌then◌else◌, List, slice_index_or}
use Rattle.lut_sim.specs.declared.shape.Shape.{Shape}

-- the last source
abbrev pub last_source : Shape → ℕ
last_source s = s.regular + s.params + s.latches

-- a regular input or a latch
abbrev pub is_regular : Shape → ℕ → Bool
is_regular s n = (nat_le 1 n && nat_le n s.regular) || (nat_lt (s.regular + s.params) n && nat_le n (last_source s))

-- the positive literal of a regular source
abbrev pub is_plain : Shape → ℕ → Bool
is_plain s l = ((l % 2) == 0) && is_regular s (l / 2)

-- the value of a regular source: an input's, or a latch's state
abbrev pub source_value : Shape → List Bool → List Bool → ℕ → Bool
source_value s inputs states n = if nat_le n s.regular then slice_index_or inputs (n - 1) false else slice_index_or states (n - 1 - (s.regular + s.params)) false
