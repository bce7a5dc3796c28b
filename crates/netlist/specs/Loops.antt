-- Which cover reads which, and which depends on which.
use Rattle.std.specs.Prelude.{◌≡◌, ℕ, List, [], ◌∷◌, Option, Some, None}
use Rattle.netlist.specs.Circuits.{In, IsRead, CoverAt, Path, Net, input_net, latch_net, cover_net, Drives, Place, cover_at, CoverValue, LibraryValue}

-- a function that gives each name's net, where each name that is read has one
pub record AreNets (library : LibraryValue) (net : Path → List ℕ → Option Net) : Type 0 where
  pub drives : (path : Path) (name : List ℕ) (e : Net) → net path name ≡ Some e → Drives library path name e
  pub finds : (path : Path) (name : List ℕ) (e : Net) → Drives library path name e → net path name ≡ Some e
  pub reads : (path : Path) (name : List ℕ) → IsRead library path name → (e : Net) × Drives library path name e

-- the covers among the nets of names
abbrev pub with_cover : Option Net → List Place → List Place
with_cover None places = places
with_cover (Some (input_net name)) places = places
with_cover (Some (latch_net path i)) places = places
with_cover (Some (cover_net path i)) places = record { path = path; command = i } ∷ places

abbrev pub covers_among : (List ℕ → Option Net) → List (List ℕ) → List Place
covers_among net [] = []
covers_among net (name ∷ names) = with_cover (net name) (covers_among net names)

abbrev pub reads_in : (List ℕ → Option Net) → Option CoverValue → List Place
reads_in net None = []
reads_in net (Some c) = covers_among net c.inputs

-- the covers whose outputs a cover reads, left to right
abbrev pub reads_of : LibraryValue → (Path → List ℕ → Option Net) → Place → List Place
reads_of library net p = reads_in (net p.path) (cover_at library p)

-- a cover reads another: the other's net drives a name among its inputs
pub record ReadsCover (library : LibraryValue) (p q : Place) : Type 0 where
  pub cover : CoverValue
  pub is : CoverAt library p.path p.command cover
  pub name : List ℕ
  pub input : In cover.inputs name
  pub drives : Drives library p.path name (cover_net q.path q.command)

-- a cover's value depends on another one's: it reads the other, or one whose value depends on the other's
pub data Depends (library : LibraryValue) : Place → Place → Type 0 where
  direct : {p q : Place} → ReadsCover library p q → Depends library p q
  through : {p q : Place} (between : Place) → ReadsCover library p between → Depends library between q → Depends library p q
