-- The set of a node: at most 2k + 4 of its candidates. Only candidates count that contain no other one. First those of the least height are taken by what they cost, until half of the places are; then those of the fewest leaves, for a quarter of the places; then the others by what they cost, for the rest.
use Rattle.std.specs.Prelude.{◌≡◌, ℕ, ◌+◌, ◌-◌, ◌*◌, ◌/◌, ◌^◌, ◌<◌, ◌≤◌, Bool, if◌then◌else◌, List, [], ◌∷◌, ◌++◌, length, map, sum_by, slice_index_or, ◌⊎◌}
use Rattle.bounded_cuts.specs.Words.{Aig, first_and, node_count, IsAnd, In, Within, IsCut, height, row_at}
use Rattle.bounded_cuts.specs.declared.limits.TheConstants.{TABLE_PRICE}
use Rattle.bounded_cuts.specs.declared.scope.Scope.TheVariants.{AnyHeight, LeastHeight}
use Rattle.bounded_cuts.specs.Candidates.{AreCandidates}
use Rattle.bounded_cuts.specs.Flow.{flow_at, cut_flow, flows_below}

-- how many cuts a set has at most
abbrev pub places : ℕ → ℕ
places k = 2 * k + 4

-- the candidate at a place
abbrev pub candidate_at : List (List ℕ) → ℕ → List ℕ
candidate_at cs i = slice_index_or cs i []

-- what a cut costs where favoured leaves cost nothing
abbrev pub paid_flow : (ℕ → Bool) → List ℕ → List ℕ → ℕ
paid_flow favoured flows c = TABLE_PRICE + (2 ^ length c + sum_by (λ m. if favoured m then 0 else flow_at flows m) c)

-- the candidate at place i contains no other one, and is the first of those that are equal to it
pub record IsLeastAt (cs : List (List ℕ)) (i : ℕ) : Type 0 where
  pub inside : i < length cs
  pub least : (j : ℕ) → j < length cs → Within (candidate_at cs j) (candidate_at cs i) → (candidate_at cs j ≡ candidate_at cs i) × (i ≤ j)

-- place i comes before place j: by a first number of their candidates, then by a second one, then by the places themselves
pub data ComesBefore (first second : List ℕ → ℕ) (cs : List (List ℕ)) (i j : ℕ) : Type 0 where
  by_first : first (candidate_at cs i) < first (candidate_at cs j) → ComesBefore first second cs i j
  by_second : first (candidate_at cs i) ≡ first (candidate_at cs j) → second (candidate_at cs i) < second (candidate_at cs j) → ComesBefore first second cs i j
  by_place : first (candidate_at cs i) ≡ first (candidate_at cs j) → second (candidate_at cs i) ≡ second (candidate_at cs j) → i < j → ComesBefore first second cs i j

-- each place of a list comes before all after it
abbrev pub AreInOrder : (List ℕ → ℕ) → (List ℕ → ℕ) → List (List ℕ) → List ℕ → Type 0
AreInOrder first second cs [] = Unit {0}
AreInOrder first second cs (i ∷ is) = ((j : ℕ) → In is j → ComesBefore first second cs i j) × AreInOrder first second cs is

-- in this order the first `most` of the places that qualify, or all of them
pub record AreFirst (first second : List ℕ → ℕ) (cs : List (List ℕ)) (qualify : ℕ → Type 0) (most : ℕ) (taken : List ℕ) : Type 0 where
  pub ordered : AreInOrder first second cs taken
  pub only : (i : ℕ) → In taken i → qualify i
  pub few : length taken ≤ most
  pub all : (i : ℕ) → qualify i → In taken i ⊎ ((length taken ≡ most) × ((j : ℕ) → In taken j → ComesBefore first second cs j i))

-- the places that are left for a taking after these
pub record IsLeft (cs : List (List ℕ)) (before : List ℕ) (i : ℕ) : Type 0 where
  pub least : IsLeastAt cs i
  pub apart : In before i → ⊥

-- those whose candidate has this height
pub record IsLeastAtHeight (label : ℕ → ℕ) (r : ℕ) (cs : List (List ℕ)) (i : ℕ) : Type 0 where
  pub least : IsLeastAt cs i
  pub height_is : height label (candidate_at cs i) ≡ r

-- the places that are taken from some candidates of a node with label r, over flows through all cuts and flows through cuts of the least height
pub record AreTakenPlaces (k : ℕ) (label : ℕ → ℕ) (r : ℕ) (flows lows : List ℕ) (favoured : ℕ → Bool) (cs : List (List ℕ)) (taken : List ℕ) : Type 0 where
  pub low : List ℕ
  pub short : List ℕ
  pub rest : List ℕ
  pub low_are : AreFirst (cut_flow lows) length cs (IsLeastAtHeight label r cs) (places k / 2) low
  pub short_are : AreFirst length (cut_flow flows) cs (IsLeft cs low) (places k / 4) short
  pub rest_are : AreFirst (paid_flow favoured flows) length cs (IsLeft cs (low ++ short)) (places k - (length low + length short)) rest
  pub is : taken ≡ (low ++ short) ++ rest

-- a set has the candidates of these places
pub record IsTaken (k : ℕ) (label : ℕ → ℕ) (r : ℕ) (flows lows : List ℕ) (favoured : ℕ → Bool) (cs set : List (List ℕ)) : Type 0 where
  pub taken : List ℕ
  pub are : AreTakenPlaces k label r flows lows favoured cs taken
  pub is : set ≡ map (candidate_at cs) taken

-- an AND node has a set, which is taken from its candidates over the flows of the nodes below it
abbrev pub HasSet : Aig → ℕ → (ℕ → ℕ) → (ℕ → List ℕ) → (ℕ → ℕ) → (ℕ → Bool) → List (List (List ℕ)) → ℕ → Type 0
HasSet g k label lows counts favoured rows n = (cs : List (List ℕ)) × AreCandidates g k label (lows n) rows n cs
    × IsTaken k label (label n) (flows_below g AnyHeight label rows counts n) (flows_below g LeastHeight label rows counts n) favoured cs (row_at rows n)

-- The set of each AND node. Flows are over the sets of the nodes below it, for these counts of readers.
pub record AreSets (g : Aig) (k : ℕ) (label : ℕ → ℕ) (lows : ℕ → List ℕ) (counts : ℕ → ℕ) (favoured : ℕ → Bool) (rows : List (List (List ℕ))) : Type 0 where
  pub count : length rows ≡ node_count g
  pub sources : (m : ℕ) → m < first_and g → row_at rows m ≡ []
  pub each : (n : ℕ) → IsAnd g n → HasSet g k label lows counts favoured rows n

-- What a plan needs of rows of cuts: each row of an AND node has cuts of the node alone, and one that is as low as the label.
pub record AreServing (g : Aig) (k : ℕ) (label : ℕ → ℕ) (rows : List (List (List ℕ))) : Type 0 where
  pub count : length rows ≡ node_count g
  pub cuts : (n : ℕ) (c : List ℕ) → IsAnd g n → In (row_at rows n) c → IsCut g k n c
  pub low : (n : ℕ) → IsAnd g n → (c : List ℕ) × In (row_at rows n) c × (height label c ≡ label n)

-- for all counts and favoured nodes there is at most one set for each node
abbrev pub AreOnce : Aig → ℕ → (ℕ → ℕ) → (ℕ → List ℕ) → Type 0
AreOnce g k label lows = (counts : ℕ → ℕ) (favoured : ℕ → Bool) (rows more : List (List (List ℕ)))
    → AreSets g k label lows counts favoured rows → AreSets g k label lows counts favoured more → rows ≡ more

-- for all counts and favoured nodes the sets serve
abbrev pub AreOfUse : Aig → ℕ → (ℕ → ℕ) → (ℕ → List ℕ) → Type 0
AreOfUse g k label lows = (counts : ℕ → ℕ) (favoured : ℕ → Bool) (rows : List (List (List ℕ)))
    → AreSets g k label lows counts favoured rows → AreServing g k label rows
