-- What the fields of a cut, and of rows of cuts, keep.
use Rattle.std.specs.Prelude.{◌≡◌, ℕ, ◌≤◌, List, length, map, take, sum_by, slice_index_or}
use Rattle.cut_sets.specs.Words.{In, IsAscending}
use Rattle.cut_sets.specs.declared.limits.TheConstants.{MOST_LEAVES, MOST_CUTS}
use Rattle.cut_sets.specs.Signature.{signature_of}
use Rattle.cut_sets.specs.Spans.{parts_of, StartsTo}

-- the first len of the numbers are leaves, ascend, and have this signature
pub record IsFlatCut (leaves : List ℕ) (len signature : ℕ) : Type 0 where
  pub few : len ≤ MOST_LEAVES
  pub ascending : IsAscending (take len leaves)
  pub signed : signature ≡ signature_of (take len leaves)

-- ascending and few
pub record IsShort (c : List ℕ) : Type 0 where
  pub ascending : IsAscending c
  pub few : length c ≤ MOST_LEAVES

-- cuts one after another in one list of leaves, each with its signature
pub record AreFlatCuts (leaves starts signatures : List ℕ) : Type 0 where
  pub first : slice_index_or starts 0 0 ≡ 0
  pub starts_to : StartsTo (length leaves) starts
  pub short : (c : List ℕ) → In (parts_of starts leaves) c → IsShort c
  pub signed : signatures ≡ map signature_of (parts_of starts leaves)

-- rows one after another: their cuts are those of the list up to the last row's end
pub record AreFlatRows (leaves starts signatures rows : List ℕ) : Type 0 where
  pub cuts : AreFlatCuts leaves starts signatures
  pub rows_to : StartsTo (length (parts_of starts leaves)) rows
  pub sum : sum_by length (parts_of rows (parts_of starts leaves)) ≡ length (parts_of starts leaves)
  pub most : length (parts_of starts leaves) ≤ MOST_CUTS
