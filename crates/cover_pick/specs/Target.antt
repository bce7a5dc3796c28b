-- The target depth of some roots.
use Rattle.std.specs.Prelude.{ℕ, ◌-◌, ◌/◌, ◌%◌, if◌then◌else◌, ◌==◌, nat_lt, List, Option, Some, None, slice_get}
use Rattle.cover_pick.specs.Words.{Aig, first_and, Kind, Regular, Parameter, greatest}

-- what a source of this kind counts as a root, in this phase
abbrev pub kind_level : Option Kind → ℕ → ℕ
kind_level (Some Regular) phase = phase
kind_level (Some Parameter) phase = 0
kind_level None phase = 0

-- what a root of a source counts: 1 where it is a complemented regular source
abbrev pub source_level : Aig → ℕ → ℕ
source_level g l = if (l / 2) == 0 then 0 else kind_level (slice_get g.kinds (l / 2 - 1)) (l % 2)

-- what a root counts: the label of an AND node
abbrev pub root_level : Aig → (ℕ → ℕ) → ℕ → ℕ
root_level g label l = if nat_lt (l / 2) (first_and g) then source_level g l else label (l / 2)

-- the target: the greatest over the roots, 0 without roots
abbrev pub target : Aig → (ℕ → ℕ) → List ℕ → ℕ
target g label roots = greatest (root_level g label) roots
