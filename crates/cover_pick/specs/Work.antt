-- The work of LUTs: what it takes to make the functions of their bits.
use Rattle.std.specs.Prelude.{◌≡◌, ℕ, ◌+◌, ◌*◌, ◌/◌, ◌^◌, ◌≤◌, List, [], ◌∷◌, length}
use Rattle.cover_pick.specs.Words.{Aig, IsAnd, IsNode, IsSource, Parameter, Pair, In, IsDescending, MOST_WORK, Lut}
use Rattle.cover_pick.specs.Rounds.{Supply, Rows, Sets}

-- an AND node that is no leaf
pub record IsInner (g : Aig) (leaves : List ℕ) (n : ℕ) : Type 0 where
  pub and : IsAnd g n
  pub apart : In leaves n → ⊥

-- a way down from a node to m over AND nodes none of which is a leaf
pub data Path (g : Aig) (leaves : List ℕ) (m : ℕ) : ℕ → Type 0 where
  here : {n : ℕ} → IsInner g leaves n → n ≡ m → Path g leaves m n
  left : {n : ℕ} (p : Pair) → IsInner g leaves n → IsNode g p n → Path g leaves m (p.x.0 / 2) → Path g leaves m n
  right : {n : ℕ} (p : Pair) → IsInner g leaves n → IsNode g p n → Path g leaves m (p.y.0 / 2) → Path g leaves m n

-- The cone of a node above some leaves: the AND nodes reached from it without passing a leaf, the node itself counted, each once.
pub record IsCone (g : Aig) (leaves : List ℕ) (n : ℕ) (cone : List ℕ) : Type 0 where
  pub descending : IsDescending cone
  pub only : (m : ℕ) → In cone m → Path g leaves m n
  pub all : (m : ℕ) → Path g leaves m n → In cone m

-- A free node is above no leaf of a LUT and above no regular source: the constant, a parameter, or an AND node that is no leaf of a LUT and whose fan-ins are free. Its function is the same in all LUTs and for all their addresses.
pub data IsFree (g : Aig) (luts : List Lut) : ℕ → Type 0 where
  free_constant : {n : ℕ} → n ≡ 0 → IsFree g luts n
  free_parameter : {n : ℕ} → IsSource g Parameter n → IsFree g luts n
  free_product : {n : ℕ} (p : Pair) → ((t : Lut) → In luts t → In t.leaves n → ⊥) → IsNode g p n → IsFree g luts (p.x.0 / 2) → IsFree g luts (p.y.0 / 2) → IsFree g luts n

-- the nodes that a rule counts once for all LUTs: none by the rule of the fewest leaves, the free ones by the least cost
abbrev pub once_by : Supply → Aig → List Lut → ℕ → Type 0
once_by (Rows table) g luts n = ⊥
once_by (Sets k low) g luts n = IsFree g luts n

-- The own nodes of a LUT: the AND nodes of its cone that aren't counted once for all LUTs.
pub record AreOwn (g : Aig) (once : ℕ → Type 0) (leaves : List ℕ) (n : ℕ) (nodes : List ℕ) : Type 0 where
  pub descending : IsDescending nodes
  pub only : (m : ℕ) → In nodes m → Path g leaves m n
  pub apart : (m : ℕ) → In nodes m → once m → ⊥
  pub all : (m : ℕ) → Path g leaves m n → (once m → ⊥) → In nodes m

-- the work of a LUT by itself: its bits times one more than its own nodes
pub record IsTableWork (g : Aig) (once : ℕ → Type 0) (t : Lut) (work : ℕ) : Type 0 where
  pub nodes : List ℕ
  pub are : AreOwn g once t.leaves (t.lit.0 / 2) nodes
  pub work_is : work ≡ 2 ^ length t.leaves * (1 + length nodes)

-- the work of all LUTs, each by itself
abbrev pub IsOwnWork : Aig → (ℕ → Type 0) → List Lut → ℕ → Type 0
IsOwnWork g once [] work = work ≡ 0
IsOwnWork g once (t ∷ ts) work = (first : ℕ) × (rest : ℕ) × IsTableWork g once t first × IsOwnWork g once ts rest × (work ≡ first + rest)

-- The shared nodes: the AND nodes of the cones that are counted once, each once.
pub record AreShared (g : Aig) (once : ℕ → Type 0) (ts : List Lut) (nodes : List ℕ) : Type 0 where
  pub descending : IsDescending nodes
  pub only : (m : ℕ) → In nodes m → once m × (t : Lut) × In ts t × Path g t.leaves m (t.lit.0 / 2)
  pub all : (m : ℕ) (t : Lut) → In ts t → Path g t.leaves m (t.lit.0 / 2) → once m → In nodes m

-- the work of all LUTs: that of each by itself, and 1 for each shared node
pub record IsWork (g : Aig) (once : ℕ → Type 0) (ts : List Lut) (work : ℕ) : Type 0 where
  pub own : ℕ
  pub is_own : IsOwnWork g once ts own
  pub shared : List ℕ
  pub are_shared : AreShared g once ts shared
  pub work_is : work ≡ own + length shared

-- the LUTs' work by a rule is within the limit
pub record IsLight (supply : Supply) (g : Aig) (ts : List Lut) : Type 0 where
  pub work : ℕ
  pub is : IsWork g (once_by supply g ts) ts work
  pub light : work ≤ MOST_WORK

-- the LUTs' work by some rule is within the limit
pub record IsMakeable (g : Aig) (ts : List Lut) : Type 0 where
  pub supply : Supply
  pub light : IsLight supply g ts
