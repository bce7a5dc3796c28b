-- How the best cut of an ordered list is found: the first of the lowest ones.
use Rattle.std.specs.Prelude.{◌≡◌, ℕ, ◌<◌, ◌≤◌, if◌then◌else◌, nat_lt, List, [], ◌∷◌, length, Option, Some, None, slice_index_or}
use Rattle.aig_core.specs.Aig.{Aig, first_and, IsAnd}
use Rattle.depth_label.specs.declared.labelling.Low.{Low}
use Rattle.cut_sets.specs.Labels.{height}
use Rattle.depth_label.specs.Label.{LabelsValue, label_of, best_of}

-- the lower of two cuts, the first where they are as low
abbrev pub lower_of : (ℕ → ℕ) → Option (List ℕ) → List ℕ → Option (List ℕ)
lower_of label None c = Some c
lower_of label (Some b) c = if nat_lt (height label c) (height label b) then Some c else Some b

-- the first of the lowest cuts of a list
abbrev pub lowest : (ℕ → ℕ) → Option (List ℕ) → List (List ℕ) → Option (List ℕ)
lowest label best [] = best
lowest label best (c ∷ cs) = lowest label (lower_of label best c) cs

-- a place and a height tell of a cut of a list, or none of none
abbrev pub IsAt : (ℕ → ℕ) → List (List ℕ) → Option Low → Option (List ℕ) → Type 0
IsAt label cs None None = Unit {0}
IsAt label cs None (Some c) = ⊥
IsAt label cs (Some b) None = ⊥
IsAt label cs (Some b) (Some c) = (b.place < length cs) × (slice_index_or cs b.place [] ≡ c) × (b.height ≡ height label c)

abbrev pub or_empty : Option (List ℕ) → List ℕ
or_empty None = []
or_empty (Some c) = c

abbrev pub lowest_cut : (ℕ → ℕ) → List (List ℕ) → List ℕ
lowest_cut label cs = or_empty (lowest label None cs)

-- the labels and best cuts of the first n nodes
pub record AreLabelledTo (g : Aig) (cuts : ℕ → List (List ℕ)) (n : ℕ) (v : LabelsValue) : Type 0 where
  pub count : length v.labels ≡ n
  pub best_count : length v.best ≡ n
  pub met : (m : ℕ) → m < n → label_of v m ≡ height (label_of v) (best_of v m)
  pub at_sources : (m : ℕ) → m < n → m < first_and g → best_of v m ≡ []
  pub at_nodes : (m : ℕ) → m < n → IsAnd g m → best_of v m ≡ lowest_cut (label_of v) (cuts m)
  pub low : (m : ℕ) → label_of v m ≤ m
