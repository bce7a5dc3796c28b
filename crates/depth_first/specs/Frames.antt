-- The state of a walk with its stack in memory: a mark for each node; the nodes that were entered, the order and the stack stand last first.
use Rattle.std.specs.Prelude.{◌≡◌, ℕ, ◌+◌, ◌-◌, ◌<◌, ◌⊎◌, Bool, true, false, List, [], ◌∷◌, ◌++◌, length, take, drop, Option, Some, None, slice_get, slice_set}
use Rattle.list_laws.specs.Members.{In}
use Rattle.depth_first.specs.declared.frames.Frame.{Frame}
use Rattle.depth_first.specs.declared.frames.Mark.{Mark}
use Rattle.depth_first.specs.declared.frames.Mark.TheVariants.{New, OnPath, Done}

pub record FramesValue : Type 0 where
  pub marks : List Mark
  pub begun : List ℕ
  pub order : List ℕ
  pub stack : List Frame

abbrev pub path_of : List Frame → List ℕ
path_of [] = []
path_of (f ∷ fs) = f.node ∷ path_of fs

-- the first of a list, and the others
abbrev pub first_of : {A : Type 0} → List A → Option A
first_of [] = None
first_of (x ∷ xs) = Some x

abbrev pub others_of : {A : Type 0} → List A → List A
others_of [] = []
others_of (x ∷ xs) = xs

-- the steps: a node is put on the path, the first frame goes on to its next place, and its node is left
abbrev pub entered : FramesValue → ℕ → FramesValue
entered w n = record { marks = slice_set w.marks n OnPath; begun = n ∷ w.begun; order = w.order; stack = record { node = n; place = 0 } ∷ w.stack }

abbrev pub onward : Frame → Frame
onward f = record { node = f.node; place = f.place + 1 }

abbrev pub advanced : FramesValue → Frame → FramesValue
advanced w f = record { marks = w.marks; begun = w.begun; order = w.order; stack = onward f ∷ others_of w.stack }

abbrev pub finished : FramesValue → ℕ → FramesValue
finished w n = record { marks = slice_set w.marks n Done; begun = w.begun; order = n ∷ w.order; stack = others_of w.stack }

-- a node that was entered is taken away; a mark is forgotten
abbrev pub without_begun : FramesValue → FramesValue
without_begun w = record { marks = w.marks; begun = others_of w.begun; order = w.order; stack = w.stack }

abbrev pub renewed : FramesValue → ℕ → FramesValue
renewed w n = record { marks = slice_set w.marks n New; begun = w.begun; order = w.order; stack = w.stack }

-- the marks, where those of these nodes are forgotten
abbrev pub forgotten : List Mark → List ℕ → List Mark
forgotten marks [] = marks
forgotten marks (n ∷ ns) = forgotten (slice_set marks n New) ns

-- between two nodes whose marks are forgotten: the others are left, and they are numbered
pub record AreForgettable (w v : FramesValue) : Type 0 where
  pub same : forgotten v.marks v.begun ≡ forgotten w.marks w.begun
  pub within : (n : ℕ) → In v.begun n → n < length v.marks

abbrev pub IsOnce : List ℕ → Type 0
IsOnce [] = Unit {0}
IsOnce (n ∷ ns) = ¬ (In ns n) × IsOnce ns

-- the marks say which nodes are on the path, which are done, and which are new
pub record AreMarks (marks : List Mark) (begun order path : List ℕ) : Type 0 where
  pub below : (n : ℕ) → In path n → n < length marks
  pub inside : (n : ℕ) → In order n → n < length marks
  pub once : IsOnce path
  pub entered : (n : ℕ) → In begun n → In path n ⊎ In order n
  pub walked : (n : ℕ) → In path n ⊎ In order n → In begun n
  pub apart : (n : ℕ) → In path n → ¬ (In order n)
  pub fresh : (n : ℕ) → slice_get marks n ≡ Some New → (¬ (In path n)) × (¬ (In order n))
  pub on : (n : ℕ) → slice_get marks n ≡ Some OnPath → In path n
  pub off : (n : ℕ) → slice_get marks n ≡ Some Done → In order n

abbrev pub has_path_mark : Option Mark → Bool
has_path_mark None = false
has_path_mark (Some New) = false
has_path_mark (Some OnPath) = true
has_path_mark (Some Done) = false

-- only so many of the nodes that were entered are left: the later ones are taken away, and their marks forgotten
abbrev pub renewed_since : ℕ → FramesValue → FramesValue
renewed_since count w = record { marks = forgotten w.marks (take (length w.begun - count) w.begun); begun = drop (length w.begun - count) w.begun; order = w.order; stack = w.stack }

-- and only so many of those that are done, and no path
abbrev pub taken_back : ℕ → ℕ → FramesValue → FramesValue
taken_back begun order w = record { marks = forgotten w.marks (take (length w.begun - begun) w.begun); begun = drop (length w.begun - begun) w.begun; order = drop (length w.order - order) w.order; stack = [] }

-- v has come on from w: the nodes that were entered since then are others, and the order has grown
pub record HasGrown (w v : FramesValue) : Type 0 where
  pub since : List ℕ
  pub begun : v.begun ≡ since ++ w.begun
  pub others : (n : ℕ) → In since n → ¬ (In w.begun n)
  pub behind : List ℕ
  pub order : v.order ≡ behind ++ w.order

-- as many marks as before, and they fit
pub record AreKept (w v : FramesValue) : Type 0 where
  pub long : length v.marks ≡ length w.marks
  pub fit : AreMarks v.marks v.begun v.order (path_of v.stack)
