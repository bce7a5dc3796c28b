-- Values with stamps: a value counts where its stamp is the present one, and elsewhere it is 0.
use Rattle.std.specs.Prelude.{◌≡◌, ℕ, ◌≤◌, if◌then◌else◌, ◌==◌, List, [], ◌∷◌, length, slice_index, replicate}

-- a zero for each of n numbers
abbrev pub zeros : ℕ → List ℕ
zeros n = replicate n 0

-- what a stamp and a value count
abbrev pub counted : ℕ → ℕ → ℕ → ℕ
counted present stamp value = if stamp == present then value else 0

-- what the values count
abbrev pub values_at : ℕ → List ℕ → List ℕ → List ℕ
values_at present [] values = []
values_at present (s ∷ stamps) [] = []
values_at present (s ∷ stamps) (v ∷ values) = counted present s v ∷ values_at present stamps values

-- each value has a stamp, which is the present one or an earlier one
pub record AreStamps (present : ℕ) (stamps values : List ℕ) : Type 0 where
  pub size : length stamps ≡ length values
  pub used : (i : ℕ) → slice_index stamps i ≤ present
  pub some : 1 ≤ present
