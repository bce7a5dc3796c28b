-- The places of covers and latches: the instance, and the place among its model's commands; and flat order.
use Rattle.std.specs.Option.{option_and_then}
use Rattle.std.specs.Prelude.{◌≡◌, ℕ, suc, Bool, true, false, ◌&&◌, ◌==◌, if◌then◌else◌, List, [], ◌∷◌, ◌++◌, Option, Some, None, bytes_eq}
use Rattle.netlist.specs.Models.{Path, body_at, subckts_of, model_named, model_at}
use Rattle.netlist.specs.Words.{Body, Cover, Latch, Subckt, Command, LatchValue, CoverValue, SubcktValue, ModelValue, LibraryValue}

pub record Place : Type 0 where
  pub path : Path
  pub command : ℕ

abbrev pub same_place : Place → Place → Bool
same_place p q = bytes_eq p.path q.path && (p.command == q.command)

-- the cover and the latch of a place
abbrev pub cover_in : Body → Option CoverValue
cover_in (Cover c) = Some c
cover_in (Latch l) = None
cover_in (Subckt s) = None

abbrev pub latch_in : Body → Option LatchValue
latch_in (Cover c) = None
latch_in (Latch l) = Some l
latch_in (Subckt s) = None

abbrev pub cover_at : LibraryValue → Place → Option CoverValue
cover_at library p = option_and_then (λ (m : ModelValue). option_and_then cover_in (body_at m p.command)) (model_at library p.path)

abbrev pub latch_at : LibraryValue → Place → Option LatchValue
latch_at library p = option_and_then (λ (m : ModelValue). option_and_then latch_in (body_at m p.command)) (model_at library p.path)

abbrev pub is_cover : Body → Bool
is_cover (Cover c) = true
is_cover (Latch l) = false
is_cover (Subckt s) = false

abbrev pub is_latch : Body → Bool
is_latch (Cover c) = false
is_latch (Latch l) = true
is_latch (Subckt s) = false

-- the places of the commands of a kind, from the place i on
abbrev pub own_places : (Body → Bool) → Path → ℕ → List Command → List Place
own_places kind path i [] = []
own_places kind path i (c ∷ cs) = if kind c.body then record { path = path; command = i } ∷ own_places kind path (suc i) cs else own_places kind path (suc i) cs

-- Flat order takes what an instance has of its own, then the instances of its `.subckt` lines in line order.
mutual
  pub data InFlatOrder {A : Type 0} (library : LibraryValue) (own : Path → ModelValue → List A) : Path → ModelValue → List A → Type 0 where
    flat : {path : Path} {m : ModelValue} {items : List A} (inner : List A) → InFlatOrderUnder library own path 0 (subckts_of m.commands) inner → items ≡ own path m ++ inner → InFlatOrder library own path m items

  pub data InFlatOrderUnder {A : Type 0} (library : LibraryValue) (own : Path → ModelValue → List A) : Path → ℕ → List SubcktValue → List A → Type 0 where
    none : {path : Path} {k : ℕ} {subckts : List SubcktValue} {items : List A} → subckts ≡ [] → items ≡ [] → InFlatOrderUnder library own path k subckts items
    more : {path : Path} {k : ℕ} {subckts : List SubcktValue} {items : List A} (s : SubcktValue) (rest : List SubcktValue) (child : ModelValue) (these others : List A)
        → subckts ≡ s ∷ rest → model_named library.models s.model ≡ Some child → InFlatOrder library own (k ∷ path) child these
        → InFlatOrderUnder library own path (suc k) rest others → items ≡ these ++ others → InFlatOrderUnder library own path k subckts items

-- the places of an instance's own commands of a kind, in line order, and those of all instances
abbrev pub own_of : (Body → Bool) → Path → ModelValue → List Place
own_of kind path m = own_places kind path 0 m.commands

abbrev pub FlatOrder : LibraryValue → (Body → Bool) → Path → ModelValue → List Place → Type 0
FlatOrder library kind = InFlatOrder library (own_of kind)

abbrev pub FlatUnder : LibraryValue → (Body → Bool) → Path → ℕ → List SubcktValue → List Place → Type 0
FlatUnder library kind = InFlatOrderUnder library (own_of kind)
