-- What `and` makes: the pairs stay normal, the answer is a literal of the new list, and its value is the product.
use Rattle.aig_core.proofs.Common.{◌≡◌, ℕ, ◌+◌, ◌-◌, ◌*◌, ◌/◌, ◌%◌, ◌<◌, ◌≤◌, Bool, true, false, not, ◌&&◌, eqb, min, max, List, [], ◌∷◌, ◌++◌, length, get_or, Option, Some, None, refl, sym, ap, ◌∙◌, inl, inr, arith, length-append, slice_get, position, slice_get-get_or, get_or_push, position-Some, eqb-true, eqb-false, and_parts, cases_lt, choose, Pair, Aig, IsLit, IsNormal, AreNormal, first_and, complement, is_pair, Answer, and_in_order, found_or_new, and_of, with_pairs, xor, value_of, FitsGraph, IsProduct, KeepsValues}
use Rattle.std.proofs.Math.Bool.{and_comm}
use Rattle.aig_core.proofs.Keeping.{AreNormal-push}
use Rattle.aig_core.proofs.FitLemmas.{is_values_of, fits_front}
use Rattle.aig_core.proofs.ValueLemmas.{value_of_old, values_from, values_node, values_of, values_old, length-values_from}
use Rattle.aig_core.proofs.GrowthLemmas.{Extends, Extends-refl, and_grows}

-- the values of the constant and the sources: as many as stand before the first AND node, the constant being 0
pub record AreBase (first : ℕ) (vs : List Bool) : Type 0 where
  pub count : length vs ≡ first
  pub constant : get_or vs 0 false ≡ false

-- values over some pairs and then more
pub values_from-append : (vs : List Bool) (ps more : List Pair) → values_from vs (ps ++ more) ≡ values_from (values_from vs ps) more
values_from-append vs [] more = refl
values_from-append vs (p ∷ ps) more = values_from-append (vs ++ (value_of vs p.x.0 && value_of vs p.y.0) ∷ []) ps more

-- more pairs change no older literal's value
pub value_of-more : (vs : List Bool) (ps qs : List Pair) (lit : ℕ) → Extends ps qs → lit / 2 < length vs + length ps → value_of (values_from vs qs) lit ≡ value_of (values_from vs ps) lit
value_of-more vs ps qs lit e l =
    ap (λ r. value_of (values_from vs r) lit) e.is
    ∙ ap (λ ws. value_of ws lit) (values_from-append vs ps e.more)
    ∙ value_of_old (values_from vs ps) e.more lit (omega (arith, length-values_from vs ps))

xor-false : (b : Bool) → xor b false ≡ b
xor-false true = refl
xor-false false = refl

xor-true : (b : Bool) → xor b true ≡ not b
xor-true true = refl
xor-true false = refl

-- an even literal has its node's value, an odd one the other
pub value_of-even : (vs : List Bool) (lit n : ℕ) → lit ≡ 2 * n → value_of vs lit ≡ get_or vs n false
value_of-even vs lit n e =
    let h : lit / 2 ≡ n = omega arith in
    let o : lit % 2 ≡ 0 = omega arith in
    rw (h, o) (xor-false (get_or vs n false))

value_of-odd : (vs : List Bool) (lit n : ℕ) → lit ≡ 2 * n + 1 → value_of vs lit ≡ not (get_or vs n false)
value_of-odd vs lit n e =
    let h : lit / 2 ≡ n = omega arith in
    let o : lit % 2 ≡ 1 = omega arith in
    rw (h, o) (xor-true (get_or vs n false))

pub not-not : (b : Bool) → not (not b) ≡ b
not-not true = refl
not-not false = refl

-- a complement flips
pub value_of-complement : (vs : List Bool) (lit : ℕ) → value_of vs (complement lit) ≡ not (value_of vs lit)
value_of-complement vs lit =
    choose (λ l. value_of vs l ≡ not (value_of vs lit)) (eqb (lit % 2) 0) (lit + 1) (lit - 1)
    (λ t. let e : lit % 2 ≡ 0 = eqb-true (lit % 2) 0 t in value_of-odd vs (lit + 1) (lit / 2) (omega arith) ∙ sym (ap not (value_of-even vs lit (lit / 2) (omega arith))))
    (λ f. let n : (lit % 2 ≡ 0 → ⊥) = eqb-false (lit % 2) 0 f in let o : lit % 2 ≡ 1 = omega arith in value_of-even vs (lit - 1) (lit / 2) (omega arith) ∙ sym (not-not (get_or vs (lit / 2) false)) ∙ sym (ap not (value_of-odd vs lit (lit / 2) (omega arith))))

-- a complement is a literal of the same graph
pub complement-below : (lit n : ℕ) → lit < 2 * n → complement lit < 2 * n
complement-below lit n l =
    choose (λ m. m < 2 * n) (eqb (lit % 2) 0) (lit + 1) (lit - 1)
    (λ t. let e : lit % 2 ≡ 0 = eqb-true (lit % 2) 0 t in omega arith) (λ f. omega arith)

-- What holds of an answer that is made over the pairs `ps`, whose literal is to have the value that `meaning` gives under the values of the nodes.
pub record Makes (first : ℕ) (ps : List Pair) (meaning : List Bool → Bool) (made : Answer) : Type 0 where
  pub grows : Extends ps made.pairs
  pub normal : AreNormal first made.pairs
  pub below : made.lit < 2 * (first + length made.pairs)
  pub value : (vs : List Bool) → AreBase first vs → value_of (values_from vs made.pairs) made.lit ≡ meaning (values_from vs ps)

-- the product of two literals under the values of the nodes
abbrev pub product : ℕ → ℕ → List Bool → Bool
product x y values = value_of values x && value_of values y

and-same : (b : Bool) → b ≡ (b && b)
and-same true = refl
and-same false = refl

and-not : (b : Bool) → false ≡ (b && not b)
and-not true = refl
and-not false = refl

-- the constant's value
constant_value : (first : ℕ) (vs : List Bool) (ps : List Pair) → 1 ≤ first → AreBase first vs → get_or (values_from vs ps) 0 false ≡ false
constant_value first vs ps some base = values_old vs ps 0 (omega (arith, base.count)) ∙ base.constant

-- an answer that adds nothing
Makes-old : (first : ℕ) (ps : List Pair) (x y lit : ℕ) → AreNormal first ps → lit < 2 * (first + length ps)
    → ((vs : List Bool) → AreBase first vs → value_of (values_from vs ps) lit ≡ product x y (values_from vs ps)) → Makes first ps (product x y) (record { pairs = ps; lit = lit })
Makes-old first ps x y lit normal below value = record { grows = Extends-refl ps; normal = normal; below = below; value = value }

-- the node of a pair that stands
Makes-found : (first : ℕ) (ps : List Pair) (x y i : ℕ) → AreNormal first ps → position (is_pair x y) ps ≡ Some i → Makes first ps (product x y) (record { pairs = ps; lit = 2 * (first + i) })
Makes-found first ps x y i normal at =
    let d : Pair = record { x = record { 0 = x }; y = record { 0 = y } } in
    let h = position-Some (is_pair x y) ps i d at in
    let within : i < length ps = h.0 in
    let p : Pair = get_or ps i d in
    let both : (eqb x p.x.0 ≡ true) × (eqb y p.y.0 ≡ true) = and_parts (eqb x p.x.0) (eqb y p.y.0) h.1 in
    let ex : x ≡ p.x.0 = eqb-true x p.x.0 both.0 in
    let ey : y ≡ p.y.0 = eqb-true y p.y.0 both.1 in
    let stands : slice_get ps i ≡ Some p = slice_get-get_or ps i d within in
    let is : IsNormal (first + i) p = normal.each i p stands in
    let low : p.x.0 / 2 < p.y.0 / 2 = is.ordered in
    let high : p.y.0 / 2 < first + i = is.below in
    Makes-old first ps x y (2 * (first + i)) normal (omega arith) (λ vs base.
    let n : length vs ≡ first = base.count in
    value_of-even (values_from vs ps) (2 * (first + i)) (first + i) refl
    ∙ ap (λ m. get_or (values_from vs ps) (m + i) false) (sym n)
    ∙ values_node vs ps i p stands (omega arith) (omega arith)
    ∙ ap (λ m. value_of (values_from vs ps) m && value_of (values_from vs ps) p.y.0) (sym ex)
    ∙ ap (λ m. value_of (values_from vs ps) x && value_of (values_from vs ps) m) (sym ey))

-- a new node at the end
Makes-new : (first : ℕ) (ps : List Pair) (x y : ℕ) → AreNormal first ps → 2 ≤ x → x / 2 < y / 2 → y / 2 < first + length ps → position (is_pair x y) ps ≡ None
    → Makes first ps (product x y) (record { pairs = ps ++ record { x = record { 0 = x }; y = record { 0 = y } } ∷ []; lit = 2 * (first + length ps) })
Makes-new first ps x y normal some ordered high none =
    let q : Pair = record { x = record { 0 = x }; y = record { 0 = y } } in
    record {
      grows = record { more = q ∷ []; is = refl };
      normal = AreNormal-push first ps q normal none (record { no_constant = some; ordered = ordered; below = high });
      below = omega (arith, length-append ps (q ∷ []));
      value = λ vs base.
          let n : length vs ≡ first = base.count in
          let ws : List Bool = values_from vs ps in
          let m : length ws ≡ length vs + length ps = length-values_from vs ps in
          value_of-even (values_from vs (ps ++ q ∷ [])) (2 * (first + length ps)) (first + length ps) refl
          ∙ ap (λ l. get_or l (first + length ps) false) (values_from-append vs ps (q ∷ []))
          ∙ get_or_push ws (value_of ws x && value_of ws y) false (first + length ps) (omega arith);
    }

-- the product of two literals in order
Makes-found_or_new : (first : ℕ) (ps : List Pair) (x y : ℕ) (o : Option ℕ) → AreNormal first ps → 2 ≤ x → x / 2 < y / 2 → y / 2 < first + length ps → position (is_pair x y) ps ≡ o → Makes first ps (product x y) (found_or_new first ps x y o)
Makes-found_or_new first ps x y (Some i) normal some ordered high at = Makes-found first ps x y i normal at
Makes-found_or_new first ps x y None normal some ordered high at = Makes-new first ps x y normal some ordered high at

pub Makes-and_in_order : (first : ℕ) (ps : List Pair) (x y : ℕ) → AreNormal first ps → 1 ≤ first → x ≤ y → y < 2 * (first + length ps) → Makes first ps (product x y) (and_in_order first ps x y)
Makes-and_in_order first ps x y normal some order high =
    let M : Answer → Type 0 = Makes first ps (product x y) in
    let zero' : (vs : List Bool) → AreBase first vs → value_of (values_from vs ps) 0 ≡ false = λ vs base. value_of-even (values_from vs ps) 0 0 refl ∙ constant_value first vs ps some base in
    let one' : (vs : List Bool) → AreBase first vs → value_of (values_from vs ps) 1 ≡ true = λ vs base. value_of-odd (values_from vs ps) 1 0 refl ∙ ap not (constant_value first vs ps some base) in
    choose M (eqb x 0) _ _
    (λ t. let e : x ≡ 0 = eqb-true x 0 t in
    Makes-old first ps x y 0 normal (omega arith) (λ vs base. zero' vs base ∙ sym (ap (λ b. b && value_of (values_from vs ps) y) (ap (λ m. value_of (values_from vs ps) m) e ∙ zero' vs base))))
    (λ f0. let n0 : (x ≡ 0 → ⊥) = eqb-false x 0 f0 in
    choose M (eqb x 1) _ _
    (λ t. let e : x ≡ 1 = eqb-true x 1 t in
    Makes-old first ps x y y normal high (λ vs base. sym (ap (λ b. b && value_of (values_from vs ps) y) (ap (λ m. value_of (values_from vs ps) m) e ∙ one' vs base))))
    (λ f1. let n1 : (x ≡ 1 → ⊥) = eqb-false x 1 f1 in
    choose M (eqb x y) _ _
    (λ t. let e : x ≡ y = eqb-true x y t in
    Makes-old first ps x y x normal (omega arith) (λ vs base. and-same (value_of (values_from vs ps) x) ∙ ap (λ m. value_of (values_from vs ps) x && value_of (values_from vs ps) m) e))
    (λ f2. let n2 : (x ≡ y → ⊥) = eqb-false x y f2 in
    choose M (eqb (x / 2) (y / 2)) _ _
    (λ t. let e : x / 2 ≡ y / 2 = eqb-true (x / 2) (y / 2) t in
    Makes-old first ps x y 0 normal (omega arith) (λ vs base.
    let vx : value_of (values_from vs ps) x ≡ get_or (values_from vs ps) (x / 2) false = value_of-even (values_from vs ps) x (x / 2) (omega arith) in
    let vy : value_of (values_from vs ps) y ≡ not (get_or (values_from vs ps) (x / 2) false) = value_of-odd (values_from vs ps) y (x / 2) (omega arith) in
    zero' vs base ∙ and-not (get_or (values_from vs ps) (x / 2) false)
    ∙ ap (λ b. b && not (get_or (values_from vs ps) (x / 2) false)) (sym vx) ∙ ap (λ b. value_of (values_from vs ps) x && b) (sym vy)))
    (λ f3. let n3 : (x / 2 ≡ y / 2 → ⊥) = eqb-false (x / 2) (y / 2) f3 in
    Makes-found_or_new first ps x y (position (is_pair x y) ps) normal (omega arith) (omega arith) (omega arith) refl))))

pub Makes-weaker : (first : ℕ) (ps : List Pair) (m n : List Bool → Bool) (made : Answer) → ((vs : List Bool) → m vs ≡ n vs) → Makes first ps m made → Makes first ps n made
Makes-weaker first ps m n made same makes = record { grows = makes.grows; normal = makes.normal; below = makes.below; value = λ vs base. makes.value vs base ∙ same (values_from vs ps) }

-- the product of any two literals of the list
pub Makes-and : (first : ℕ) (ps : List Pair) (a b : ℕ) → AreNormal first ps → 1 ≤ first → a < 2 * (first + length ps) → b < 2 * (first + length ps) → Makes first ps (product a b) (and_in_order first ps (min a b) (max a b))
Makes-and first ps a b normal some la lb = elim (cases_lt b a) [
  | inl l ↦
      let lo : min a b ≡ b = omega arith in
      let hi : max a b ≡ a = omega arith in
      rw (lo, hi) (Makes-weaker first ps (product b a) (product a b) _ (λ vs. and_comm (value_of vs b) (value_of vs a)) (Makes-and_in_order first ps b a normal some (omega arith) la))
  | inr l ↦
      let lo : min a b ≡ a = omega arith in
      let hi : max a b ≡ b = omega arith in
      rw (lo, hi) (Makes-and_in_order first ps a b normal some l lb)
]

-- a literal that stands
pub Makes-literal : (first : ℕ) (ps : List Pair) (a : ℕ) → AreNormal first ps → a < 2 * (first + length ps) → Makes first ps (λ values. value_of values a) (record { pairs = ps; lit = a })
Makes-literal first ps a normal below = record { grows = Extends-refl ps; normal = normal; below = below; value = λ vs base. refl }

-- the constant 1
pub Makes-one : (first : ℕ) (ps : List Pair) → AreNormal first ps → 1 ≤ first → Makes first ps (λ values. true) (record { pairs = ps; lit = 1 })
Makes-one first ps normal some = record { grows = Extends-refl ps; normal = normal; below = omega arith; value = λ vs base. value_of-odd (values_from vs ps) 1 0 refl ∙ ap not (constant_value first vs ps some base) }

-- a complement
pub Makes-complement : (first : ℕ) (ps : List Pair) (meaning : List Bool → Bool) (made : Answer) → Makes first ps meaning made → Makes first ps (λ values. not (meaning values)) (record { pairs = made.pairs; lit = complement made.lit })
Makes-complement first ps meaning made makes = record {
  grows = makes.grows;
  normal = makes.normal;
  below = complement-below made.lit (first + length made.pairs) makes.below;
  value = λ vs base. value_of-complement (values_from vs made.pairs) made.lit ∙ ap not (makes.value vs base);
}

-- the base of a graph's values
pub AreBase-sources : (sources : List Bool) (n : ℕ) → length sources ≡ n → AreBase (1 + n) (false ∷ sources)
AreBase-sources sources n e = record { count = omega arith; constant = refl }

-- an answer made over a graph's pairs, as said of graphs: its literal's value under values that fit the new graph
pub Makes-fits : (g : Aig) (meaning : List Bool → Bool) (made : Answer) (sources values : List Bool) → Makes (first_and g) g.pairs meaning made → FitsGraph (with_pairs g made.pairs) sources values
    → (value_of values made.lit ≡ meaning (values_of g sources)) × (values ≡ values_from (false ∷ sources) made.pairs)
Makes-fits g meaning made sources values makes fits =
    let e : values ≡ values_from (false ∷ sources) made.pairs = is_values_of (with_pairs g made.pairs) sources values makes.normal fits in
    (ap (λ vs. value_of vs made.lit) e ∙ makes.value (false ∷ sources) (AreBase-sources sources (length g.kinds) fits.given), e)

-- older literals have the same values in both
pub value_of-fits : (g : Aig) (ps : List Pair) (sources values : List Bool) (lit : ℕ) → Extends g.pairs ps → length sources ≡ length g.kinds → values ≡ values_from (false ∷ sources) ps → IsLit g lit → value_of (values_of g sources) lit ≡ value_of values lit
value_of-fits g ps sources values lit e n is below = sym (value_of-more (false ∷ sources) g.pairs ps lit e (omega arith)) ∙ ap (λ vs. value_of vs lit) (sym is)

-- more AND nodes change no older value
pub KeepsValues-Extends : (g : Aig) (ps : List Pair) → AreNormal (first_and g) g.pairs → Extends g.pairs ps → KeepsValues g (with_pairs g ps)
KeepsValues-Extends g ps normal e = record { front = λ sources values fits. fits_front g ps sources values normal e fits }

-- `and` gives the product
pub IsProduct-and_of : (g : Aig) (a b : ℕ) → AreNormal (first_and g) g.pairs → IsLit g a → IsLit g b → IsProduct (with_pairs g (and_of g a b).pairs) a b (and_of g a b).lit
IsProduct-and_of g a b normal la lb =
    let makes : Makes (first_and g) g.pairs (product a b) (and_of g a b) = Makes-and (first_and g) g.pairs a b normal (omega arith) la lb in
    record {
      value = λ sources values fits.
          let m = Makes-fits g (product a b) (and_of g a b) sources values makes fits in
          m.0
          ∙ ap (λ v. v && value_of (values_of g sources) b) (value_of-fits g (and_of g a b).pairs sources values a makes.grows fits.given m.1 la)
          ∙ ap (λ v. value_of values a && v) (value_of-fits g (and_of g a b).pairs sources values b makes.grows fits.given m.1 lb);
    }

-- and older literals keep their values
pub KeepsValues-and_of : (g : Aig) (a b : ℕ) → AreNormal (first_and g) g.pairs → KeepsValues g (with_pairs g (and_of g a b).pairs)
KeepsValues-and_of g a b normal = KeepsValues-Extends g (and_of g a b).pairs normal (and_grows (first_and g) g.pairs (min a b) (max a b))
