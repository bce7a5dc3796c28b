-- The items that were read: each is of the kind of its place, with its literals in range, and what is picked of one kind stands in the order of its places.
-- The latches among the commands of a circuit's library, in flat order.
use Rattle.aiger_io.proofs.Common.{◌≡◌, ℕ, ◌+◌, ◌*◌, ◌<◌, ◌≤◌, true, ◌&&◌, leb, List, [], ◌∷◌, ◌++◌, length, Option, Some, Ok, inl, inr, refl, sym, ◌∙◌, subst, arith, slice_get, get_pushed, item_count, kind_at, item_of, is_literal, is_variable, is_in_range, item_with, item_at, items_from, words_of, and_then, Header, Item, Input, Latch, And, LineKind, zero, suc, ◌-◌, min, max, ◌⊎◌, ap, flat_map, nat_tests, leb-true, le-leb, Circuit, IsDefined, zero_variable, input, latch, gate, place_in, and_parts, ◌/◌, Bool, eqb, map, Place, is_latch, own_places, state_of, Command, variable_name, next_name, latch_command, commands_from, same_Some, CoverValue, cond-true, cond-false, ne_eqb, eq-eqb, rules}
pub use Rattle.aiger_io.specs.AigerText.{kind_of_item}
use Rattle.aiger_io.specs.declared.aag_err.AagErr.TheVariants as aag_err
use Rattle.aiger_io.specs.declared.item.LineKind.TheVariants as kind
use Rattle.aiger_io.proofs.LineLemmas.{behind_of, chosen, ok_then}
use Rattle.netlist.specs.declared.command.Body.TheVariants as body
use Rattle.netlist.specs.declared.latch.Latch.{Latch as LatchValue}

-- a line's form is that of its kind
pub form_kind : (k : LineKind) (words : List (List ℕ)) (item : Item) → item_of k words ≡ Some item → kind_of_item item ≡ k
form_kind k words item e = grind arith

-- what is known of the item at a place
pub record IsItemAt (h : Header) (place : ℕ) (item : Item) : Type 0 where
  pub kind : kind_of_item item ≡ kind_at h place
  pub range : is_in_range h.variables item ≡ true

item_known : (h : Header) (place : ℕ) (words : List (List ℕ)) (o : Option Item) (item : Item) → item_of (kind_at h place) words ≡ o → item_with h.variables place o ≡ Ok item → IsItemAt h place item
item_known h place words o item is e = grind (arith, ok_then, form_kind)

abbrev pub AreItems : Header → List Item → Type 0
AreItems h items = (p : ℕ) (item : Item) → slice_get items p ≡ Some item → IsItemAt h p item

one_item : (h : Header) (items : List Item) (item : Item) → AreItems h items → IsItemAt h (length items) item → AreItems h (items ++ item ∷ [])
one_item h items item are at p other e = elim (get_pushed items item p other e) [
  | inl i ↦ are p other i
  | inr s ↦ subst (λ q. IsItemAt h q other) (sym s.0) (subst (λ i. IsItemAt h (length items) i) s.1 at)
]

pub items_known : (h : Header) (items all : List Item) (rows : List (List ℕ)) → AreItems h items → items_from h items rows ≡ Ok all → AreItems h all
items_known h items all [] are e =
    let t = ok_then (leb (item_count h) (length items)) (Ok items) (aag_err.Malformed (length items + 2)) all e in
    let q : items ≡ all = cc in subst (AreItems h) q are
items_known h items all (row ∷ rows) are e = elim (chosen (leb (item_count h) (length items)) (Ok items) (and_then (λ (item : Item). items_from h (items ++ item ∷ []) rows) (item_at h (length items) row)) (Ok all) e) [
  | inl t ↦ (let q : items ≡ all = cc in subst (AreItems h) q are)
  | inr t ↦ (let b = behind_of (λ (item : Item). items_from h (items ++ item ∷ []) rows) (item_at h (length items) row) all t.1 in
      items_known h (items ++ b.first ∷ []) all rows (one_item h items b.first are (item_known h (length items) (words_of row) (item_of (kind_at h (length items)) (words_of row)) b.first refl b.is)) b.then_is)
]

-- the places of each kind
module _ (h : Header) (p : ℕ) where
  pub of_input : kind.Input ≡ kind_at h p → p < h.inputs
  of_input e = grind (arith, nat_tests)

  pub of_latch : kind.Latch ≡ kind_at h p → (h.inputs ≤ p) × (p < h.inputs + h.latches)
  of_latch e = grind (arith, nat_tests)

  pub of_output : kind.Output ≡ kind_at h p → (h.inputs + h.latches ≤ p) × (p < h.inputs + h.latches + h.outputs)
  of_output e = grind (arith, nat_tests)

  pub of_gate : kind.And ≡ kind_at h p → h.inputs + h.latches + h.outputs ≤ p
  of_gate e = grind (arith, nat_tests)

  -- and back
  pub input_here : p < h.inputs → kind.Input ≡ kind_at h p
  input_here l = grind (arith, nat_tests)

  pub latch_here : h.inputs ≤ p → p < h.inputs + h.latches → kind.Latch ≡ kind_at h p
  latch_here l m = grind (arith, nat_tests)

  pub output_here : h.inputs + h.latches ≤ p → p < h.inputs + h.latches + h.outputs → kind.Output ≡ kind_at h p
  output_here l m = grind (arith, nat_tests)

  pub gate_here : h.inputs + h.latches + h.outputs ≤ p → kind.And ≡ kind_at h p
  gate_here l = grind (arith, nat_tests)

-- literals in range
pub literal_low : (most l : ℕ) → is_literal most l ≡ true → l ≤ 2 * most + 1
literal_low most l t = leb-true l (2 * most + 1) t

pub variable_low : (most l : ℕ) → is_variable most l ≡ true → (2 ≤ l) × (l ≤ 2 * most)
variable_low most l t = grind (arith, nat_tests)

-- and back
pub variable_in : (most n : ℕ) → 1 ≤ n → n ≤ most → is_variable most (2 * n) ≡ true
variable_in most n low high = grind (arith, nat_tests)

pub literal_in : (most l : ℕ) → l ≤ 2 * most + 1 → is_literal most l ≡ true
literal_in most l low = le-leb l (2 * most + 1) low

-- what the lines define is in range
half_low : (most v own : ℕ) → v ≡ own / 2 → is_variable most own ≡ true → v ≤ most
half_low most v own e t = grind (arith, nat_tests)

pub defined_low : (c : Circuit) → AreItems c.header c.items → (v : ℕ) → IsDefined c v → v ≤ c.header.variables
defined_low c are v (zero_variable e) = omega arith
defined_low c are v (input own i e) = let p = place_in c.items (Input own) i in half_low c.header.variables v own e (are p.0 (Input own) p.1).range
defined_low c are v (latch own next init i e) =
    let p = place_in c.items (Latch own next init) i in half_low c.header.variables v own e (and_parts (is_variable c.header.variables own) (is_literal c.header.variables next) (are p.0 (Latch own next init) p.1).range).0
defined_low c are v (gate own left right i e) =
    let p = place_in c.items (And own left right) i in
    half_low c.header.variables v own e (and_parts (is_variable c.header.variables own) (is_literal c.header.variables left && is_literal c.header.variables right) (are p.0 (And own left right) p.1).range).0

-- items from a place on are of the kinds of their places
abbrev pub AreKinds : Header → ℕ → List Item → Type 0
AreKinds h p [] = Unit {0}
AreKinds h p (item ∷ items) = (kind_of_item item ≡ kind_at h p) × AreKinds h (p + 1) items

-- one thing is picked of each item at a place from a to before b, and nothing of another one
pub record IsPicked {A : Type 0} (h : Header) (pick : Item → List A) (a b p : ℕ) (item : Item) : Type 0 where
  pub cases : ((a ≤ p) × (p < b) × ((y : A) × (pick item ≡ y ∷ []))) ⊎ (((p < a) ⊎ (b ≤ p)) × (pick item ≡ []))

module _ {A : Type 0} (h : Header) (pick : Item → List A) (a b : ℕ) (picks : (p : ℕ) (item : Item) → kind_of_item item ≡ kind_at h p → IsPicked h pick a b p item) where
  pub picked_length : (p : ℕ) (items : List Item) → AreKinds h p items → length (flat_map pick items) ≡ min (p + length items) b - max p a
  picked_length p [] kinds = omega arith
  picked_length p (item ∷ items) kinds = grind (arith, picked_length (p + 1) items kinds.1)

  -- behind these places nothing is picked
  none_behind : (p : ℕ) (items : List Item) → AreKinds h p items → b ≤ p → (q : ℕ) (item : Item) (y : A) → slice_get items q ≡ Some item → pick item ≡ y ∷ [] → ⊥
  none_behind p [] kinds past q item y at is = cc
  none_behind p (first ∷ items) kinds past zero item y at is = search rules
  none_behind p (first ∷ items) kinds past (suc q) item y at is = none_behind (p + 1) items kinds.1 (omega arith) q item y at is

  -- what is picked of the item at a place stands at its ordinal
  pub picked_at : (p : ℕ) (items : List Item) → AreKinds h p items → (q : ℕ) (item : Item) (y : A) → slice_get items q ≡ Some item → pick item ≡ y ∷ [] → slice_get (flat_map pick items) (p + q - max p a) ≡ Some y
  picked_at p [] kinds q item y at is = absurd (cc)
  picked_at p (first ∷ items) kinds zero item y at is = search rules
  picked_at p (first ∷ items) kinds (suc q) item y at is = grind (arith, none_behind, picked_at (p + 1) items kinds.1 q item y at is)

  -- and all that is picked is picked so
  pub record IsPickedFrom (p : ℕ) (items : List Item) (n : ℕ) (y : A) : Type 0 where
    pub place : ℕ
    pub item : Item
    pub at : slice_get items place ≡ Some item
    pub is : pick item ≡ y ∷ []
    pub ordinal : n ≡ p + place - max p a
    pub low : a ≤ p + place
    pub high : p + place < b

  first_or_later : (p : ℕ) (first : Item) (items : List Item) → AreKinds h p (first ∷ items) → a ≤ p → p < b → (z : A) → pick first ≡ z ∷ [] → (n : ℕ) (y : A) → slice_get (z ∷ flat_map pick items) n ≡ Some y
      → ((m : ℕ) → slice_get (flat_map pick items) m ≡ Some y → IsPickedFrom (p + 1) items m y) → IsPickedFrom p (first ∷ items) n y
  first_or_later p first items kinds low high z is zero y e later = let same : z ≡ y = cc in record { place = zero; item = first; at = refl; is = subst (λ x. pick first ≡ x ∷ []) same is; ordinal = omega arith; low = omega arith; high = omega arith }
  first_or_later p first items kinds low high z is (suc n) y e later =
      let f = later n e in
      record { place = suc f.place; item = f.item; at = f.at; is = f.is; ordinal = omega arith; low = omega arith; high = omega arith }

  pub picked_from : (p : ℕ) (items : List Item) → AreKinds h p items → (n : ℕ) (y : A) → slice_get (flat_map pick items) n ≡ Some y → IsPickedFrom p items n y
  picked_from p [] kinds n y e = absurd (cc)
  picked_from p (first ∷ items) kinds n y e = elim (picks p first kinds.0).cases [
    | inl r ↦ (let o = r.2 in first_or_later p first items kinds r.0 r.1 o.0 o.1 n y (subst (λ l. slice_get (l ++ flat_map pick items) n ≡ Some y) o.1 e) (λ m d. picked_from (p + 1) items kinds.1 m y d))
    | inr r ↦ (
        let f = picked_from (p + 1) items kinds.1 n y (subst (λ l. slice_get (l ++ flat_map pick items) n ≡ Some y) r.1 e) in
        elim r.0 [
          | inl l ↦ (let under : p < a = l in record { place = suc f.place; item = f.item; at = f.at; is = f.is; ordinal = omega arith; low = omega arith; high = omega arith })
          | inr l ↦ (let over : b ≤ p = l in absurd (omega arith))
        ])
  ]

-- the places of the latch commands among the commands of items, where the first command stands at a place
abbrev pub latch_indices : ℕ → List Item → List ℕ
latch_indices j [] = []
latch_indices j (Latch own next init ∷ items) = suc j ∷ latch_indices (suc (suc j)) items
latch_indices j (item ∷ items) = latch_indices (suc j) items

abbrev pub top_place : ℕ → Place
top_place i = record { path = []; command = i }

pub own_latches : (mark : List ℕ) (h : Header) (inputs outputs : List (List ℕ)) (j p : ℕ) (items : List Item) → own_places is_latch [] j (commands_from mark h inputs outputs p items) ≡ map top_place (latch_indices j items)
own_latches mark h inputs outputs j p [] = refl
own_latches mark h inputs outputs j p (Latch own next init ∷ items) = ap (λ l. top_place (suc j) ∷ l) (own_latches mark h inputs outputs (suc (suc j)) (p + 1) items)
own_latches mark h inputs outputs j p (item ∷ items) = own_latches mark h inputs outputs (suc j) (p + 1) items

-- each of them is behind the first place
indices_behind : (j : ℕ) (items : List Item) (k i : ℕ) → slice_get (latch_indices j items) k ≡ Some i → j < i
indices_behind j [] k i e = absurd (cc)
indices_behind j (Latch own next init ∷ items) zero i e = let q : suc j ≡ i = cc in omega arith
indices_behind j (Latch own next init ∷ items) (suc k) i e = let l : suc (suc j) < i = indices_behind (suc (suc j)) items k i e in omega arith
indices_behind j (item ∷ items) k i e = let l : suc j < i = indices_behind (suc j) items k i e in omega arith

-- so the state of the latch of an ordinal is that of the ordinal
pub state_at : (j : ℕ) (items : List Item) (states : List Bool) (k i : ℕ) (b : Bool) → slice_get (latch_indices j items) k ≡ Some i → slice_get states k ≡ Some b → state_of (map top_place (latch_indices j items)) states [] i ≡ b
state_at j [] states k i b e s = absurd (cc)
state_at j (Latch own next init ∷ items) [] k i b e s = absurd (cc)
state_at j (Latch own next init ∷ items) (t ∷ states) zero i b e s = grind (arith, cond-true, eqb, top_place, latch_indices, eq-eqb)
state_at j (Latch own next init ∷ items) (t ∷ states) (suc k) i b e s = grind (arith, indices_behind, cond-false, eqb, top_place, latch_indices, ne_eqb, state_at (suc (suc j)) items states k i b e s)
state_at j (item ∷ items) states k i b e s = state_at (suc j) items states k i b e s

pub kind_there : (h : Header) (p : ℕ) (items : List Item) → AreKinds h p items → (q : ℕ) (item : Item) → slice_get items q ≡ Some item → kind_of_item item ≡ kind_at h (p + q)
kind_there h p [] kinds q item e = absurd (cc)
kind_there h p (first ∷ items) kinds zero item e = let same : first ≡ item = cc in let z : p ≡ p + zero = omega arith in subst (λ n. kind_of_item item ≡ kind_at h n) z (subst (λ i. kind_of_item i ≡ kind_at h p) same kinds.0)
kind_there h p (first ∷ items) kinds (suc q) item e = let z : p + 1 + q ≡ p + suc q = omega arith in subst (λ n. kind_of_item item ≡ kind_at h n) z (kind_there h (p + 1) items kinds.1 q item e)

-- an item before a latch is an input or a latch
before_latch : (h : Header) (p : ℕ) (k : LineKind) → k ≡ kind_at h p → (kind.Latch ≡ k → ⊥) → (r : ℕ) → p ≤ r → kind_at h r ≡ kind.Latch → p < h.inputs
before_latch h p k e other r le later = grind (arith, nat_tests)

-- a latch item and its command, by their places, and the latch's index
pub record IsLatchAt (mark : List ℕ) (h : Header) (inputs outputs : List (List ℕ)) (j p : ℕ) (items : List Item) (place number own next : ℕ) (init : Bool) : Type 0 where
  pub line : ℕ
  pub item : slice_get items place ≡ Some (Latch own next init)
  pub at : slice_get (commands_from mark h inputs outputs p items) number ≡ Some (latch_command line (next_name mark (p + place - h.inputs)) (variable_name mark (own / 2)) init)
  pub index : slice_get (latch_indices j items) (p + place - max p h.inputs) ≡ Some (j + number)

pub record IsLatchOf (mark : List ℕ) (h : Header) (inputs outputs : List (List ℕ)) (j p : ℕ) (items : List Item) (n : ℕ) : Type 0 where
  pub place : ℕ
  pub own : ℕ
  pub next : ℕ
  pub init : Bool
  pub are : IsLatchAt mark h inputs outputs j p items place n own next init

module _ (mark : List ℕ) (h : Header) (inputs outputs : List (List ℕ)) where
  first_latch : (j p x y own next : ℕ) (z init : Bool) (items : List Item) → h.inputs ≤ p → Latch x y z ≡ Latch own next init → IsLatchAt mark h inputs outputs j p (Latch x y z ∷ items) zero 1 own next init
  first_latch j p x y own next z init items low same =
      let sx : x ≡ own = cc in let sz : z ≡ init = cc in
      let a : p - h.inputs ≡ p + zero - h.inputs = omega arith in
      let b : 0 ≡ p + zero - max p h.inputs = omega arith in
      record {
        line = p + 2;
        item = ap (λ (i : Item). Some i) same;
        at = grind (arith);
        index = subst (λ m. slice_get (suc j ∷ latch_indices (suc (suc j)) items) m ≡ Some (j + 1)) b (ap (λ m. Some m) (omega arith));
      }

  behind_latch : (j p x y q n own next : ℕ) (z init : Bool) (items : List Item) → h.inputs ≤ p → IsLatchAt mark h inputs outputs (suc (suc j)) (p + 1) items q n own next init → IsLatchAt mark h inputs outputs j p (Latch x y z ∷ items) (suc q) (suc (suc n)) own next init
  behind_latch j p x y q n own next z init items low f = grind (arith, latch_indices)

  -- behind an item that is no latch: it is an input
  behind_other : (j p : ℕ) (first : Item) (items : List Item) (q n own next : ℕ) (init : Bool) (d : Command) → AreKinds h p (first ∷ items) → IsLatchAt mark h inputs outputs (suc j) (p + 1) items q n own next init
      → latch_indices j (first ∷ items) ≡ latch_indices (suc j) items → (kind.Latch ≡ kind_of_item first → ⊥) → commands_from mark h inputs outputs p (first ∷ items) ≡ d ∷ commands_from mark h inputs outputs (p + 1) items
      → IsLatchAt mark h inputs outputs j p (first ∷ items) (suc q) (suc n) own next init
  behind_other j p first items q n own next init d kinds f same other commands =
      let low : p < h.inputs = before_latch h p (kind_of_item first) kinds.0 other (p + 1 + q) (omega arith) (sym (kind_there h (p + 1) items kinds.1 q (Latch own next init) f.item)) in
      let b : p + 1 + q - max (p + 1) h.inputs ≡ p + suc q - max p h.inputs = omega arith in
      let u : suc j + n ≡ j + suc n = omega arith in
      record {
        line = f.line;
        item = f.item;
        at = ap (λ cs. slice_get cs (suc n)) commands ∙ f.at ∙ ap (λ (k : ℕ). Some (latch_command f.line (next_name mark k) (variable_name mark (own / 2)) init)) (omega arith);
        index = ap (λ is. slice_get is (p + suc q - max p h.inputs)) same ∙ ap (slice_get (latch_indices (suc j) items)) (sym b) ∙ f.index ∙ ap (λ m. Some m) u;
      }

  cover_no_latch : (b : CoverValue) (d : Command) (line : ℕ) (l : LatchValue) → Some (record { line = line; body = body.Cover b }) ≡ Some d → d.body ≡ body.Latch l → ⊥
  cover_no_latch b d line l e is = let same : record { line = line; body = body.Cover b } ≡ d = same_Some (record { line = line; body = body.Cover b }) d e in let q : body.Cover b ≡ body.Latch l = ap (λ (k : Command). k.body) same ∙ is in cc

  pub latch_of : (j p : ℕ) (items : List Item) → AreKinds h p items → (n : ℕ) (d : Command) (l : LatchValue) → slice_get (commands_from mark h inputs outputs p items) n ≡ Some d → d.body ≡ body.Latch l → IsLatchOf mark h inputs outputs j p items n
  latch_of j p (Latch own next init ∷ items) kinds (suc zero) d l e is = record { place = zero; own = own; next = next; init = init; are = first_latch j p own next own next init init items (of_latch h p kinds.0).0 refl }
  latch_of j p (Latch x y z ∷ items) kinds (suc (suc n)) d l e is =
      let f = latch_of (suc (suc j)) (p + 1) items kinds.1 n d l e is in
      record { place = suc f.place; own = f.own; next = f.next; init = f.init; are = behind_latch j p x y f.place n f.own f.next z f.init items (of_latch h p kinds.0).0 f.are }
  latch_of j p (item ∷ items) kinds (suc n) d l e is =
      let f = latch_of (suc j) (p + 1) items kinds.1 n d l e is in
      record { place = suc f.place; own = f.own; next = f.next; init = f.init; are = behind_other j p item items f.place n f.own f.next f.init _ kinds f.are refl (λ q. cc) refl }
  latch_of j p items kinds n d l e is = absurd (cc)

  pub command_of_latch : (j p : ℕ) (items : List Item) → AreKinds h p items → (q own next : ℕ) (init : Bool) → slice_get items q ≡ Some (Latch own next init) → (n : ℕ) × IsLatchAt mark h inputs outputs j p items q n own next init
  command_of_latch j p (Latch x y z ∷ items) kinds zero own next init e = (1, first_latch j p x y own next z init items (of_latch h p kinds.0).0 (same_Some (Latch x y z) (Latch own next init) e))
  command_of_latch j p (Latch x y z ∷ items) kinds (suc q) own next init e =
      let f = command_of_latch (suc (suc j)) (p + 1) items kinds.1 q own next init e in (suc (suc f.0), behind_latch j p x y q f.0 own next z init items (of_latch h p kinds.0).0 f.1)
  command_of_latch j p (item ∷ items) kinds (suc q) own next init e =
      let f = command_of_latch (suc j) (p + 1) items kinds.1 q own next init e in (suc f.0, behind_other j p item items q f.0 own next init _ kinds f.1 refl (λ r. cc) refl)
  command_of_latch j p items kinds q own next init e = absurd (cc)
