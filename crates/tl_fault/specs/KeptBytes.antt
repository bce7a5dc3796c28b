-- The bytes of a name as they are kept.
use Rattle.std.specs.Prelude.{ℕ, ◌≤◌, ◌≡◌, List, length, take}
use Rattle.tl_fault.specs.declared.kept.Kept.{Kept}
use Rattle.tl_fault.specs.declared.kept.Kept.TheVariants.{Short, Long}

-- the bytes: the first of the array, or those of the allocation
abbrev pub kept_bytes : Kept → List ℕ
kept_bytes (Short count cells) = take count cells
kept_bytes (Long bytes) = bytes.value.items

-- the array has room for them
abbrev pub IsKept : Kept → Type 0
IsKept (Short count cells) = (count ≤ 22) × (length cells ≡ 22)
IsKept (Long bytes) = Unit {0}
