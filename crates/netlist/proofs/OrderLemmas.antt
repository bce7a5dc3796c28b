-- Flat order, of whatever the instances have of their own: an instance whose hierarchy ends has one, and one only; all that the instances within it have stands there, and nothing else.
use Rattle.netlist.proofs.Common.{◌≡◌, ℕ, zero, suc, ◌+◌, ◌≤◌, Bool, true, false, ◌⊎◌, List, [], ◌∷◌, ◌++◌, length, Some, refl, sym, ap, ap₂, ◌∙◌, subst, subst₂, inl, inr, append_assoc, arith, slice_get, option_and_then, if◌then◌else◌, both_ways, length-append, none-some, same_Some, choose, In, In-left, In-right, In-append, AreApart, joined_apart, Body, Command, ModelValue, Path, body_at, subckts_of, model_named, placed, model_at, Ends, ends, Place, own_places, own_of, InFlatOrder, InFlatOrderUnder, FlatOrder, flat, SubcktValue, LibraryValue, none, more, get_end}
use Rattle.netlist.proofs.PlaceLemmas.{place_of, command_of, body_of, placed-is, inside}
use Rattle.netlist.proofs.NameLemmas.{same_first, same_rest, not_empty}
use Rattle.netlist.specs.DepthFirst.{none}

-- the subcircuits from number k on are those of the model there
pub record AreFrom (m : ModelValue) (k : ℕ) (subckts : List SubcktValue) : Type 0 where
  pub each : (j : ℕ) (s : SubcktValue) → slice_get subckts j ≡ Some s → slice_get (subckts_of m.commands) (k + j) ≡ Some s

pub from_start : (m : ModelValue) → AreFrom m 0 (subckts_of m.commands)
from_start m = record { each = λ j s e. subst (λ n. slice_get (subckts_of m.commands) n ≡ Some s) (let q : j ≡ 0 + j = omega arith in q) e }

pub from_first : (m : ModelValue) (k : ℕ) (subckts : List SubcktValue) (s : SubcktValue) (rest : List SubcktValue) → AreFrom m k subckts → subckts ≡ s ∷ rest → slice_get (subckts_of m.commands) k ≡ Some s
from_first m k subckts s rest h e = subst (λ n. slice_get (subckts_of m.commands) n ≡ Some s) (let q : k + 0 ≡ k = omega arith in q) (h.each 0 s (ap (λ l. slice_get l 0) e))

pub from_rest : (m : ModelValue) (k : ℕ) (subckts : List SubcktValue) (s : SubcktValue) (rest : List SubcktValue) → AreFrom m k subckts → subckts ≡ s ∷ rest → AreFrom m (suc k) rest
from_rest m k subckts s rest h e = record { each = λ j t q. subst (λ n. slice_get (subckts_of m.commands) n ≡ Some t) (let z : k + suc j ≡ suc k + j = omega arith in z) (h.each (suc j) t (ap (λ l. slice_get l (suc j)) e ∙ q)) }

-- the instance that a subcircuit places
pub placed_at : (library : LibraryValue) (path : Path) (m : ModelValue) (k : ℕ) (s : SubcktValue) (child : ModelValue) → model_at library path ≡ Some m → slice_get (subckts_of m.commands) k ≡ Some s
    → model_named library.models s.model ≡ Some child → model_at library (k ∷ path) ≡ Some child
placed_at library path m k s child at e named = ap (option_and_then (placed library k)) at ∙ placed-is library m k s e ∙ named

-- a path is that of an instance within another one, or below its subcircuits from number k on
record IsWithin (path p : Path) : Type 0 where
  inner : Path
  is : p ≡ inner ++ path

record IsBelow (path : Path) (k : ℕ) (p : Path) : Type 0 where
  inner : Path
  ordinal : ℕ
  from : k ≤ ordinal
  is : p ≡ inner ++ ordinal ∷ path

same_length : (xs ys path : Path) (i j : ℕ) → xs ++ i ∷ path ≡ ys ++ j ∷ path → length xs ≡ length ys
same_length xs ys path i j e =
    omega (arith, length-append xs (i ∷ path), length-append ys (j ∷ path), ap length e)

same_ordinal : (xs ys path : Path) (i j : ℕ) → xs ++ i ∷ path ≡ ys ++ j ∷ path → i ≡ j
same_ordinal xs ys path i j e = same_Some i j (sym (get_end xs i path) ∙ ap₂ (λ (l : Path) (n : ℕ). slice_get l n) e (same_length xs ys path i j e) ∙ get_end ys j path)

not_itself : (path : Path) (k : ℕ) → IsBelow path k path → ⊥
not_itself path k b =
    omega (arith, ap length b.is, length-append b.inner (b.ordinal ∷ path))

apart_below : (path : Path) (k : ℕ) (p : Path) → IsWithin (k ∷ path) p → IsBelow path (suc k) p → ⊥
apart_below path k p w b = grind (arith, same_ordinal)

module _ {A : Type 0} (library : LibraryValue) (own : Path → ModelValue → List A) where
  abbrev HasOrder : Path → ModelValue → Type 0
  HasOrder path m = (items : List A) × InFlatOrder library own path m items

  under_exists : (m : ModelValue) (path : Path) → ((k : ℕ) (s : SubcktValue) → slice_get (subckts_of m.commands) k ≡ Some s → (child : ModelValue) × (model_named library.models s.model ≡ Some child) × HasOrder (k ∷ path) child)
      → (k : ℕ) (subckts : List SubcktValue) → AreFrom m k subckts → (items : List A) × InFlatOrderUnder library own path k subckts items
  under_exists m path h k [] from = ([], none refl refl)
  under_exists m path h k (s ∷ subckts) from =
      let c = h k s (from_first m k (s ∷ subckts) s subckts from refl) in
      let r = under_exists m path h (suc k) subckts (from_rest m k (s ∷ subckts) s subckts from refl) in
      (c.2.0 ++ r.0, more s subckts c.0 c.2.0 r.0 refl c.1 c.2.1 r.1 refl)

  pub order_exists : ((path : Path) (m : ModelValue) (k : ℕ) (s : SubcktValue) → model_at library path ≡ Some m → slice_get (subckts_of m.commands) k ≡ Some s → (child : ModelValue) × (model_named library.models s.model ≡ Some child))
      → (m : ModelValue) → Ends library m → (path : Path) → model_at library path ≡ Some m → (items : List A) × InFlatOrder library own path m items
  order_exists known m (ends t) path at =
      let r = under_exists m path (λ k s e.
      let c = known path m k s at e in
      (c.0, c.1, order_exists known c.0 (t k c.0 (placed-is library m k s e ∙ c.1)) (k ∷ path) (placed_at library path m k s c.0 at e c.1))) 0 (subckts_of m.commands) (from_start m) in
      (own path m ++ r.0, flat r.0 r.1 refl)

  mutual
    pub one_order : {path : Path} {m : ModelValue} {items others : List A} → InFlatOrder library own path m items → InFlatOrder library own path m others → items ≡ others
    one_order {path} {m} (flat inner u q) (flat inside v r) = q ∙ ap (λ l. own path m ++ l) (one_under u v) ∙ sym r

    one_under : {path : Path} {k : ℕ} {subckts : List SubcktValue} {items others : List A} → InFlatOrderUnder library own path k subckts items → InFlatOrderUnder library own path k subckts others → items ≡ others
    one_under (none a q) (none b r) = q ∙ sym r
    one_under (none a q) (more t rest c these others b n w u r) = absurd (not_empty t rest a b)
    one_under (more t rest c these others b n w u r) (none a q) = absurd (not_empty t rest a b)
    one_under {path} {k} (more s rest c these after a m w u q) (more t end d those last b n v x r) =
        let child : d ≡ c = same_Some d c (sym n ∙ ap (λ (y : SubcktValue). model_named library.models y.model) (same_first t s end rest b a) ∙ m) in
        q ∙ ap₂ (λ (y z : List A). y ++ z) (one_order w (subst (λ y. InFlatOrder library own (k ∷ path) y those) child v))
        (one_under u (subst (λ y. InFlatOrderUnder library own path (suc k) y last) (same_rest t s end rest b a) x)) ∙ sym r

  -- what stands in an order is an instance's own
  pub record IsOwnOf (item : A) : Type 0 where
    pub path : Path
    pub model : ModelValue
    pub at : model_at library path ≡ Some model
    pub member : In (own path model) item

  mutual
    pub order_only : {path : Path} {m : ModelValue} {items : List A} → InFlatOrder library own path m items → model_at library path ≡ Some m → (x : A) → In items x → IsOwnOf x
    order_only {path} {m} (flat inner u z) at x i = elim (In-append (own path m) inner x (subst (λ l. In l x) z i)) as (λ _. IsOwnOf x) [
      | inl j ↦ record { path = path; model = m; at = at; member = j }
      | inr j ↦ under_only u m at (from_start m) x j
    ]

    under_only : {path : Path} {k : ℕ} {subckts : List SubcktValue} {items : List A} → InFlatOrderUnder library own path k subckts items → (m : ModelValue) → model_at library path ≡ Some m → AreFrom m k subckts
        → (x : A) → In items x → IsOwnOf x
    under_only (none a b) m at from x i = absurd (subst (λ l. In l x) b i)
    under_only {path} {k} {subckts} (more s rest child these others e named order under z) m at from x i = elim (In-append these others x (subst (λ l. In l x) z i)) as (λ _. IsOwnOf x) [
      | inl j ↦ order_only order (placed_at library path m k s child at (from_first m k subckts s rest from e) named) x j
      | inr j ↦ under_only under m at (from_rest m k subckts s rest from e) x j
    ]

  -- the order of an instance within another one
  record Part (items : List A) (path : Path) (m : ModelValue) : Type 0 where
    part : List A
    order : InFlatOrder library own path m part
    within : (x : A) → In part x → In items x

  part_under : {path : Path} {k : ℕ} {subckts : List SubcktValue} {items : List A} → InFlatOrderUnder library own path k subckts items → (j : ℕ) (s : SubcktValue) (child : ModelValue) → slice_get subckts j ≡ Some s
      → model_named library.models s.model ≡ Some child → Part items ((k + j) ∷ path) child
  part_under (none a b) j s child e q = absurd (none-some s (subst (λ l. slice_get l j ≡ Some s) a e))
  part_under {path} {k} {subckts} {items} (more t rest c these others a b w u z) zero s child e q =
      let twin : c ≡ child = same_Some c child (sym b ∙ ap (λ (y : SubcktValue). model_named library.models y.model) (same_Some t s (subst (λ l. slice_get l 0 ≡ Some s) a e)) ∙ q) in
      let n : k ≡ k + 0 = omega arith in
      record { part = these; order = subst₂ (λ (x : ℕ) (y : ModelValue). InFlatOrder library own (x ∷ path) y these) n twin w; within = λ x i. subst (λ l. In l x) (sym z) (In-left these others x i) }
  part_under {path} {k} {subckts} {items} (more t rest c these others a b w u z) (suc j) s child e q =
      let r = part_under u j s child (subst (λ l. slice_get l (suc j) ≡ Some s) a e) q in
      record { part = r.part; order = subst (λ x. InFlatOrder library own (x ∷ path) child r.part) (omega arith) r.order; within = λ x i. subst (λ l. In l x) (sym z) (In-right these others x (r.within x i)) }

  part_of : {path : Path} {m : ModelValue} {items : List A} → InFlatOrder library own path m items → (k : ℕ) (s : SubcktValue) (child : ModelValue) → slice_get (subckts_of m.commands) k ≡ Some s
      → model_named library.models s.model ≡ Some child → Part items (k ∷ path) child
  part_of {path} {m} (flat inner u z) k s child e q =
      let r = part_under u k s child e q in
      let n : 0 + k ≡ k = omega arith in
      record { part = r.part; order = subst (λ x. InFlatOrder library own (x ∷ path) child r.part) n r.order; within = λ x i. subst (λ l. In l x) (sym z) (In-right (own path m) inner x (r.within x i)) }

  part_at : (main : ModelValue) (items : List A) → model_at library [] ≡ Some main → InFlatOrder library own [] main items → (path : Path) (m : ModelValue) → model_at library path ≡ Some m → Part items path m
  part_at main items at w [] m e = record { part = items; order = subst (λ x. InFlatOrder library own [] x items) (same_Some main m (sym at ∙ e)) w; within = λ x i. i }
  part_at main items at w (k ∷ outer) m e =
      let u = inside library outer k m e in
      let r = part_at main items at w outer u.model u.at in
      let z = part_of r.order k u.subckt m u.is u.places in
      record { part = z.part; order = z.order; within = λ x i. r.within x (z.within x i) }

  own_stands : {path : Path} {m : ModelValue} {items : List A} → InFlatOrder library own path m items → (x : A) → In (own path m) x → In items x
  own_stands {path} {m} (flat inner u z) x i = subst (λ l. In l x) (sym z) (In-left (own path m) inner x i)

  -- all that an instance has of its own stands in the order of the main model
  pub order_all : (main : ModelValue) (items : List A) → model_at library [] ≡ Some main → InFlatOrder library own [] main items → (path : Path) (m : ModelValue) → model_at library path ≡ Some m
      → (x : A) → In (own path m) x → In items x
  order_all main items at w path m e x i = let r = part_at main items at w path m e in r.within x (own_stands r.order x i)

  -- where each item tells its instance, each stands once
  module _ (of : A → Path) (own_path : (path : Path) (m : ModelValue) (x : A) → In (own path m) x → of x ≡ path) (own_apart : (path : Path) (m : ModelValue) → AreApart (own path m)) where
    mutual
      order_within : {path : Path} {m : ModelValue} {items : List A} → InFlatOrder library own path m items → (x : A) → In items x → IsWithin path (of x)
      order_within {path} {m} (flat inner under z) x i = elim (In-append (own path m) inner x (subst (λ l. In l x) z i)) [
        | inl j ↦ record { inner = []; is = own_path path m x j }
        | inr j ↦ (let b = under_below under x j in record { inner = b.inner ++ b.ordinal ∷ []; is = b.is ∙ sym (append_assoc b.inner (b.ordinal ∷ []) path) })
      ]

      under_below : {path : Path} {k : ℕ} {subckts : List SubcktValue} {items : List A} → InFlatOrderUnder library own path k subckts items → (x : A) → In items x → IsBelow path k (of x)
      under_below (none a b) x i = absurd (subst (λ l. In l x) b i)
      under_below {path} {k} (more s rest child these others e named order under z) x i = elim (In-append these others x (subst (λ l. In l x) z i)) [
        | inl j ↦ (let w = order_within order x j in record { inner = w.inner; ordinal = k; from = omega arith; is = w.is })
        | inr j ↦ (let b = under_below under x j in let from : suc k ≤ b.ordinal = b.from in record { inner = b.inner; ordinal = b.ordinal; from = omega arith; is = b.is })
      ]

    mutual
      pub order_apart : {path : Path} {m : ModelValue} {items : List A} → InFlatOrder library own path m items → AreApart items
      order_apart {path} {m} (flat inner under z) = subst AreApart (sym z)
          (joined_apart (own path m) inner (own_apart path m) (under_apart under) (λ x i j. not_itself path 0 (subst (IsBelow path 0) (own_path path m x i) (under_below under x j))))

      under_apart : {path : Path} {k : ℕ} {subckts : List SubcktValue} {items : List A} → InFlatOrderUnder library own path k subckts items → AreApart items
      under_apart (none a b) = subst AreApart (sym b) tt
      under_apart {path} {k} (more s rest child these others e named order under z) =
          subst AreApart (sym z) (joined_apart these others (order_apart order) (under_apart under) (λ x i j. apart_below path k (of x) (order_within order x i) (under_below under x j)))

own_case : {A : Type 0} (b : Bool) (x : A) (xs : List A) (p : A) → In (if b then x ∷ xs else xs) p → (p ≡ x) ⊎ In xs p
own_case true x xs p i = i
own_case false x xs p i = inr i

apart_case : {A : Type 0} (b : Bool) (x : A) (xs : List A) → (In xs x → ⊥) → AreApart xs → AreApart (if b then x ∷ xs else xs)
apart_case true x xs off a = (off, a)
apart_case false x xs off a = a

-- an instance's own place, from a command on
record IsOwn (path : Path) (i : ℕ) (p : Place) : Type 0 where
  from : i ≤ p.command
  is : p.path ≡ path

module _ (library : LibraryValue) (kind : Body → Bool) where
  own_from : (path : Path) (i : ℕ) (cs : List Command) (p : Place) → In (own_places kind path i cs) p → IsOwn path i p
  own_from path i [] p h = absurd h
  own_from path i (c ∷ cs) p h = elim (own_case (kind c.body) (place_of path i) (own_places kind path (suc i) cs) p h) [
    | inl e ↦ (let f : p.command ≡ i = ap (λ (x : Place). x.command) e in record { from = omega arith; is = ap (λ (x : Place). x.path) e })
    | inr j ↦ (let o = own_from path (suc i) cs p j in let f : suc i ≤ p.command = o.from in record { from = omega arith; is = o.is })
  ]

  not_later : (path : Path) (i : ℕ) (cs : List Command) → In (own_places kind path (suc i) cs) (place_of path i) → ⊥
  not_later path i cs h = let o = own_from path (suc i) cs (place_of path i) h in let f : suc i ≤ i = o.from in omega arith

  own_apart : (path : Path) (i : ℕ) (cs : List Command) → AreApart (own_places kind path i cs)
  own_apart path i [] = tt
  own_apart path i (c ∷ cs) = apart_case (kind c.body) (place_of path i) (own_places kind path (suc i) cs) (not_later path i cs) (own_apart path (suc i) cs)

  pub places_apart : {path : Path} {m : ModelValue} {places : List Place} → FlatOrder library kind path m places → AreApart places
  places_apart w = order_apart library (own_of kind) (λ (p : Place). p.path) (λ path m p i. (own_from path 0 m.commands p i).is) (λ path m. own_apart path 0 m.commands) w

  -- a command of the kind stands at a place
  pub record IsOfKind (p : Place) : Type 0 where
    pub model : ModelValue
    pub at : model_at library p.path ≡ Some model
    pub body : Body
    pub is : body_at model p.command ≡ Some body
    pub kind_is : kind body ≡ true

  own_only : (path : Path) (m : ModelValue) → model_at library path ≡ Some m → (i : ℕ) (cs : List Command) → ((j : ℕ) (c : Command) → slice_get cs j ≡ Some c → slice_get m.commands (i + j) ≡ Some c)
      → (p : Place) → In (own_places kind path i cs) p → IsOfKind p
  own_only path m at i [] h p j = absurd j
  own_only path m at i (c ∷ cs) h p j =
      let here : slice_get m.commands i ≡ Some c = subst (λ n. slice_get m.commands n ≡ Some c) (let z : i + 0 ≡ i = omega arith in z) (h 0 c refl) in
      let rest : In (own_places kind path (suc i) cs) p → IsOfKind p = grind (arith, own_only path m at (suc i) cs (λ k d q. subst (λ n. slice_get m.commands n ≡ Some d) (let z : i + suc k ≡ suc i + k = omega arith in z) (h (suc k) d q)) p) in
      choose (λ l. In l p → IsOfKind p) (kind c.body) (place_of path i ∷ own_places kind path (suc i) cs) (own_places kind path (suc i) cs)
      (λ t y. elim y as (λ _. IsOfKind p) [ inl e ↦ subst IsOfKind (sym e) (record { model = m; at = at; body = c.body; is = body_of m i c here; kind_is = t }) | inr k ↦ rest k ])
      (λ u y. rest y) j

  -- each place of the flat order of the main model
  pub flat_only : (main : ModelValue) (places : List Place) → model_at library [] ≡ Some main → FlatOrder library kind [] main places → (p : Place) → In places p → IsOfKind p
  flat_only main places at w p i =
      let o = order_only library (own_of kind) w at p i in
      own_only o.path o.model o.at 0 (o.model).commands (λ k c q. subst (λ n. slice_get (o.model).commands n ≡ Some c) (let y : k ≡ 0 + k = omega arith in y) q) p o.member

  own_place : (path : Path) (i : ℕ) (cs : List Command) (j : ℕ) (c : Command) → slice_get cs j ≡ Some c → kind c.body ≡ true → In (own_places kind path i cs) (place_of path (i + j))
  own_place path i [] j c e t = absurd (none-some c e)
  own_place path i (d ∷ cs) zero c e t = grind arith
  own_place path i (d ∷ cs) (suc j) c e t = grind (arith, own_places, place_of, own_place path (suc i) cs j c e t)

  -- every command of the kind, of every instance, stands in the flat order of the main model
  pub flat_all : (main : ModelValue) (places : List Place) → model_at library [] ≡ Some main → FlatOrder library kind [] main places
      → (path : Path) (m : ModelValue) (i : ℕ) (b : Body) → model_at library path ≡ Some m → body_at m i ≡ Some b → kind b ≡ true → In places (place_of path i)
  flat_all main places at w path m i b e f t =
      let c = command_of (slice_get m.commands i) b f in
      let n : 0 + i ≡ i = omega arith in
      order_all library (own_of kind) main places at w path m e (place_of path i)
      (subst (λ y. In (own_places kind path 0 m.commands) (place_of path y)) n (own_place path 0 m.commands i c.0 c.1 (ap kind c.2 ∙ t)))

-- Flat order is one, and so the walk of the covers has one result.
module _ (library : LibraryValue) where
  module _ (kind : Body → Bool) where
    pub order_once : {path : Path} {m : ModelValue} {places others : List Place} → FlatOrder library kind path m places → FlatOrder library kind path m others → places ≡ others
    order_once w v = one_order library (own_of kind) w v
