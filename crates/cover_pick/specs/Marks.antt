-- How the LUTs are made: the needed literals are marked, and the marked ones taken in ascending order.
use Rattle.std.specs.Prelude.{◌≡◌, ℕ, ◌+◌, ◌-◌, ◌*◌, ◌/◌, ◌%◌, ◌^◌, ◌<◌, Bool, true, false, if◌then◌else◌, ◌==◌, nat_lt, List, [], ◌∷◌, ◌++◌, length, Option, Some, None, slice_get, slice_set, replicate}
use Rattle.cover_pick.specs.Words.{Aig, first_and, node_count, Kind, Regular, Parameter, In, Rule, Lut}
-- is a literal marked
pub use Rattle.list_laws.specs.Digits.{bit_in as mark_at}
use Rattle.cover_pick.specs.Mapping.{AscendByLit, HaveBases, bits_of}
use Rattle.cover_pick.specs.Rounds.{Supply, IsPlan}
use Rattle.cover_pick.specs.Served.{IsServing}
use Rattle.cover_pick.specs.Planned.{cut_at, and_depths, depths_of, IsPlanned}
use Rattle.cover_pick.specs.Tables.{HasTable}

-- a literal is marked: a root, or the positive literal of a leaf of a cut of the list
pub data IsMarked (roots : List ℕ) (cuts : List (Option (List ℕ))) (l : ℕ) : Type 0 where
  root : In roots l → IsMarked roots cuts l
  leaf : (c : List ℕ) (m : ℕ) → In cuts (Some c) → In c m → l ≡ 2 * m → IsMarked roots cuts l

-- the leaves of a source's table, if it has one: a positive regular source has none, a complemented one has the source, a parameter no leaf
abbrev pub source_leaves : Option Kind → ℕ → ℕ → Option (List ℕ)
source_leaves (Some Regular) n phase = if phase == 1 then Some (n ∷ []) else None
source_leaves (Some Parameter) n phase = Some []
source_leaves None n phase = Some []

-- the leaves of a literal's table, if it has one: the constant has none, an AND node its chosen cut
abbrev pub leaves_of : Aig → List (Option (List ℕ)) → ℕ → Option (List ℕ)
leaves_of g cuts l = if (l / 2) == 0 then Some [] else if nat_lt (l / 2) (first_and g) then source_leaves (slice_get g.kinds (l / 2 - 1)) (l / 2) (l % 2) else cut_at cuts (l / 2)

abbrev pub mark_each : List Bool → List ℕ → List Bool
mark_each marks [] = marks
mark_each marks (l ∷ ls) = mark_each (slice_set marks l true) ls

-- the positive literals of leaves
abbrev pub mark_leaves : List Bool → List ℕ → List Bool
mark_leaves marks [] = marks
mark_leaves marks (m ∷ ms) = mark_leaves (slice_set marks (2 * m) true) ms

abbrev pub mark_cut : List Bool → Option (List ℕ) → List Bool
mark_cut marks None = marks
mark_cut marks (Some c) = mark_leaves marks c

abbrev pub mark_cuts : List Bool → List (Option (List ℕ)) → List Bool
mark_cuts marks [] = marks
mark_cuts marks (o ∷ os) = mark_cuts (mark_cut marks o) os

-- the marks of the needed literals
abbrev pub marks_of : Aig → List ℕ → List (Option (List ℕ)) → List Bool
marks_of g roots cuts = mark_cuts (mark_each (replicate (2 * node_count g) false) roots) cuts

-- the tables made so far, and their bits
pub record Made : Type 0 where
  pub luts : List Lut
  pub bits : ℕ

abbrev pub add_table : Made → ℕ → Option (List ℕ) → Made
add_table made l None = made
add_table made l (Some c) = record {
  luts = made.luts ++ record { lit = record { 0 = l }; leaves = c; base = made.bits } ∷ [];
  bits = made.bits + 2 ^ length c;
}

abbrev pub add_marked : Aig → List (Option (List ℕ)) → Made → ℕ → Bool → Made
add_marked g cuts made l needed = if needed then add_table made l (leaves_of g cuts l) else made

-- the tables of the marked literals from l on
abbrev pub tables_from : Aig → List (Option (List ℕ)) → Made → ℕ → List Bool → Made
tables_from g cuts made l [] = made
tables_from g cuts made l (m ∷ ms) = tables_from g cuts (add_marked g cuts made l m) (l + 1) ms

abbrev pub tables_of : Aig → List ℕ → List (Option (List ℕ)) → Made
tables_of g roots cuts = tables_from g cuts (record { luts = []; bits = 0 }) 0 (marks_of g roots cuts)

-- the tables of the needed literals below l, with their bits
pub record AreMade (g : Aig) (cuts : List (Option (List ℕ))) (needed : ℕ → Type 0) (l : ℕ) (made : Made) : Type 0 where
  pub below : (t : Lut) → In made.luts t → t.lit.0 < l
  pub only : (t : Lut) → In made.luts t → needed t.lit.0 × (leaves_of g cuts t.lit.0 ≡ Some t.leaves)
  pub all : (m : ℕ) (c : List ℕ) → m < l → needed m → leaves_of g cuts m ≡ Some c → HasTable made.luts m c
  pub ascending : AscendByLit made.luts
  pub bases : HaveBases 0 made.luts
  pub sum : made.bits ≡ bits_of made.luts

-- the tables of the marked literals over the cuts that the walk finds in some rows by some flows, which are the plan
pub record IsMade (supply : Supply) (g : Aig) (label : ℕ → ℕ) (roots : List ℕ) (made : Made) : Type 0 where
  pub rule : Rule
  pub rows : List (List (List ℕ))
  pub serving : IsServing rule g label rows
  pub flows : List ℕ
  pub cuts : List (Option (List ℕ))
  pub plan : IsPlanned rule g rows label roots flows (cut_at cuts)
  pub chosen : IsPlan supply g label roots (and_depths g (depths_of rule g rows label roots flows)) (cut_at cuts)
  pub tables : AreMade g cuts (IsMarked roots cuts) (2 * node_count g) made
