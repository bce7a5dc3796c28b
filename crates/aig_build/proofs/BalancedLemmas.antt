-- The balanced AND of a list: it only adds nodes, doesn't depend on how many halvings are allowed, and has the value of the product of all.
use Rattle.aig_build.proofs.Common.{◌≡◌, ℕ, zero, suc, ◌+◌, ◌*◌, ◌<◌, ◌≤◌, Bool, true, ◌&&◌, min, max, List, [], ◌∷◌, ◌++◌, length, refl, sym, ap, ◌∙◌, arith, take-append-drop, length-take, length-drop, All-head, All-tail, All-take, All-drop, All-weaker, Lit, Pair, Aig, AreNormal, IsLit, first_and, Answer, and_of, with_pairs, product_of, value_of, values_from, Extends, Extends-refl, Extends-trans, length-Extends, and_grows, AreBase, Makes, Makes-and, Makes-literal, Makes-one, value_of-more, product, front_half, back_half, balanced, balanced_and, All, rules}
use Rattle.std.specs.Int.{div_ceil}

-- it only adds nodes
pub balanced-grows : (first depth : ℕ) (pairs : List Pair) (lits : List Lit) → Extends pairs (balanced first depth pairs lits).pairs
balanced-grows first (suc depth) pairs (a ∷ b ∷ rest) =
    let front : Answer = balanced first depth pairs (front_half (a ∷ b ∷ rest)) in
    let back : Answer = balanced first depth front.pairs (back_half (a ∷ b ∷ rest)) in
    Extends-trans pairs front.pairs (product_of first back.pairs front.lit back.lit).pairs (balanced-grows first depth pairs (front_half (a ∷ b ∷ rest)))
    (Extends-trans front.pairs back.pairs (product_of first back.pairs front.lit back.lit).pairs (balanced-grows first depth front.pairs (back_half (a ∷ b ∷ rest)))
    (and_grows first back.pairs (min front.lit back.lit) (max front.lit back.lit)))
balanced-grows first depth pairs lits = Extends-refl pairs

-- both halves of a list of two or more are shorter
pub front_half-shorter : (lits : List Lit) (depth : ℕ) → 2 ≤ length lits → length lits ≤ suc depth → length (front_half lits) ≤ depth
front_half-shorter lits depth two few = omega (arith, length-take (div_ceil (length lits) 2) lits)

pub back_half-shorter : (lits : List Lit) (depth : ℕ) → 2 ≤ length lits → length lits ≤ suc depth → length (back_half lits) ≤ depth
back_half-shorter lits depth two few = omega (arith, length-drop (div_ceil (length lits) 2) lits)

-- any number of halvings that suffices gives the same
balanced-depth : (first m n : ℕ) (pairs : List Pair) (lits : List Lit) → length lits ≤ m → length lits ≤ n → balanced first m pairs lits ≡ balanced first n pairs lits
balanced-depth first (suc m) (suc n) pairs (a ∷ b ∷ rest) lm ln =
    let lits : List Lit = a ∷ b ∷ rest in
    let two : 2 ≤ length lits = omega arith in
    let k : (qs : List Pair) → balanced first m qs (back_half lits) ≡ balanced first n qs (back_half lits) = λ qs. balanced-depth first m n qs (back_half lits) (back_half-shorter lits m two lm) (back_half-shorter lits n two ln) in
    let after : Answer → Answer → Answer = λ x y. product_of first y.pairs x.lit y.lit in
    ap (λ (x : Answer). after x (balanced first m x.pairs (back_half lits))) (balanced-depth first m n pairs (front_half lits) (front_half-shorter lits m two lm) (front_half-shorter lits n two ln))
    ∙ ap (λ (y : Answer). after (balanced first n pairs (front_half lits)) y) (k (balanced first n pairs (front_half lits)).pairs)
balanced-depth first (suc m) (suc n) pairs lits lm ln = refl
balanced-depth first zero zero pairs lits lm ln = refl
balanced-depth first m n pairs [] lm ln = refl
balanced-depth first m n pairs (a ∷ rest) lm ln = absurd (omega arith)

-- the halving itself, for a list of two or more
pub balanced_and-halves : (first : ℕ) (pairs : List Pair) (lits : List Lit) → 2 ≤ length lits
    → balanced_and first pairs lits ≡ product_of first (balanced_and first (balanced_and first pairs (front_half lits)).pairs (back_half lits)).pairs (balanced_and first pairs (front_half lits)).lit (balanced_and first (balanced_and first pairs (front_half lits)).pairs (back_half lits)).lit
balanced_and-halves first pairs (a ∷ b ∷ rest) two =
    let lits : List Lit = a ∷ b ∷ rest in
    let n : ℕ = suc (length rest) in
    let few : length lits ≤ suc n = omega arith in
    let k : (qs : List Pair) → balanced first n qs (back_half lits) ≡ balanced_and first qs (back_half lits) = λ qs. balanced-depth first n (length (back_half lits)) qs (back_half lits) (back_half-shorter lits n two few) (omega arith) in
    let after : Answer → Answer → Answer = λ x y. product_of first y.pairs x.lit y.lit in
    ap (λ (x : Answer). after x (balanced first n x.pairs (back_half lits))) (balanced-depth first n (length (front_half lits)) pairs (front_half lits) (front_half-shorter lits n two few) (omega arith))
    ∙ ap (λ (y : Answer). after (balanced_and first pairs (front_half lits)) y) (k (balanced_and first pairs (front_half lits)).pairs)
balanced_and-halves first pairs lits two = absurd (omega arith)

-- all the literals are 1 under the values of the nodes
abbrev pub all_true : List Lit → List Bool → Bool
all_true [] values = true
all_true (lit ∷ lits) values = value_of values lit.0 && all_true lits values

pub and_assoc : (a b c : Bool) → ((a && b) && c) ≡ (a && (b && c))
and_assoc a b c = grind arith

pub all_true-append : (xs ys : List Lit) (values : List Bool) → all_true (xs ++ ys) values ≡ (all_true xs values && all_true ys values)
all_true-append [] ys values = refl
all_true-append (x ∷ xs) ys values = ap (λ b. value_of values x.0 && b) (all_true-append xs ys values) ∙ sym (and_assoc (value_of values x.0) (all_true xs values) (all_true ys values))

-- a literal of the nodes so far
abbrev pub IsBelow : ℕ → List Pair → Lit → Type 0
IsBelow first pairs lit = lit.0 < 2 * (first + length pairs)

-- literals of the nodes so far
abbrev pub AreBelow : ℕ → List Pair → List Lit → Type 0
AreBelow first pairs lits = All (IsBelow first pairs) lits

pub AreBelow-more : (first : ℕ) (ps qs : List Pair) (lits : List Lit) → Extends ps qs → AreBelow first ps lits → AreBelow first qs lits
AreBelow-more first ps qs lits e below = All-weaker (IsBelow first ps) (IsBelow first qs) (λ (lit : Lit) l. let n : length ps ≤ length qs = length-Extends ps qs e in omega arith) lits below

-- more nodes change nothing
pub all_true-more : (first : ℕ) (ps qs : List Pair) (lits : List Lit) (vs : List Bool) → Extends ps qs → AreBelow first ps lits → AreBase first vs → all_true lits (values_from vs qs) ≡ all_true lits (values_from vs ps)
all_true-more first ps qs [] vs e below base = refl
all_true-more first ps qs (lit ∷ lits) vs e below base =
    ap (λ b. b && all_true lits (values_from vs qs)) (value_of-more vs ps qs lit.0 e (omega (arith, base.count, All-head (IsBelow first ps) lit lits below)))
    ∙ ap (λ b. value_of (values_from vs ps) lit.0 && b) (all_true-more first ps qs lits vs e (All-tail (IsBelow first ps) lit lits below) base)

and_true : (b : Bool) → b ≡ (b && true)
and_true b = grind arith

-- the value of the balanced AND is the product of all
pub Makes-balanced : (first depth : ℕ) (ps : List Pair) (lits : List Lit) → AreNormal first ps → 1 ≤ first → AreBelow first ps lits → length lits ≤ depth → Makes first ps (all_true lits) (balanced first depth ps lits)
Makes-balanced first zero ps [] normal some below few = Makes-one first ps normal some
Makes-balanced first zero ps (a ∷ rest) normal some below few = absurd (omega arith)
Makes-balanced first (suc depth) ps [] normal some below few = Makes-one first ps normal some
Makes-balanced first (suc depth) ps (a ∷ []) normal some below few =
    let m : Makes first ps (λ vs. value_of vs a.0) (record { pairs = ps; lit = a.0 }) = Makes-literal first ps a.0 normal (All-head (IsBelow first ps) a [] below) in
    record { grows = m.grows; normal = m.normal; below = m.below; value = λ vs base. m.value vs base ∙ and_true (value_of (values_from vs ps) a.0) }
Makes-balanced first (suc depth) ps (a ∷ b ∷ rest) normal some below few =
    let lits : List Lit = a ∷ b ∷ rest in
    let two : 2 ≤ length lits = omega arith in
    let x : Answer = balanced first depth ps (front_half lits) in
    let y : Answer = balanced first depth x.pairs (back_half lits) in
    let mx : Makes first ps (all_true (front_half lits)) x = Makes-balanced first depth ps (front_half lits) normal some (All-take (IsBelow first ps) (div_ceil (length lits) 2) lits below) (front_half-shorter lits depth two few) in
    let back_below : AreBelow first ps (back_half lits) = All-drop (IsBelow first ps) (div_ceil (length lits) 2) lits below in
    let my : Makes first x.pairs (all_true (back_half lits)) y = Makes-balanced first depth x.pairs (back_half lits) mx.normal some (AreBelow-more first ps x.pairs (back_half lits) mx.grows back_below) (back_half-shorter lits depth two few) in
    let n : length x.pairs ≤ length y.pairs = length-Extends x.pairs y.pairs my.grows in
    let m : Makes first y.pairs (product x.lit y.lit) (product_of first y.pairs x.lit y.lit) = Makes-and first y.pairs x.lit y.lit my.normal some (omega arith) my.below in
    record {
      grows = Extends-trans ps x.pairs (product_of first y.pairs x.lit y.lit).pairs mx.grows (Extends-trans x.pairs y.pairs (product_of first y.pairs x.lit y.lit).pairs my.grows m.grows);
      normal = m.normal;
      below = m.below;
      value = λ vs base.
          m.value vs base
          ∙ ap (λ v. v && value_of (values_from vs y.pairs) y.lit) (value_of-more vs x.pairs y.pairs x.lit my.grows (omega (arith, base.count)) ∙ mx.value vs base)
          ∙ ap (λ v. all_true (front_half lits) (values_from vs ps) && v) (my.value vs base ∙ all_true-more first ps x.pairs (back_half lits) vs mx.grows back_below base)
          ∙ sym (all_true-append (front_half lits) (back_half lits) (values_from vs ps))
          ∙ ap (λ ls. all_true ls (values_from vs ps)) (take-append-drop (div_ceil (length lits) 2) lits);
    }

-- As the code makes it: g1 is g with the first half made, g2 is g1 with the second, and x and y are their literals. The product of the halves is the
-- balanced AND, and nothing but the pairs changes.
pub halved : (g : Aig) (lits front back : List Lit) (g1 g2 : Aig) (x y : ℕ) → 2 ≤ length lits → front ≡ front_half lits → back ≡ back_half lits
    → x ≡ (balanced_and (first_and g) g.pairs front).lit → g1 ≡ with_pairs g (balanced_and (first_and g) g.pairs front).pairs
    → y ≡ (balanced_and (first_and g1) g1.pairs back).lit → g2 ≡ with_pairs g1 (balanced_and (first_and g1) g1.pairs back).pairs
    → (and_of g2 x y ≡ balanced_and (first_and g) g.pairs lits) × ((ps : List Pair) → with_pairs g2 ps ≡ with_pairs g ps) × (g2.max ≡ g.max)
halved g lits front back g1 g2 x y two ef eb hx hg1 hy hg2 = rw (hg2, hy, hg1, hx, eb, ef) (sym (balanced_and-halves (first_and g) g.pairs lits two), (λ ps. refl), refl)

-- a half has no more nodes than the whole
pub balanced_and-front_length : (first : ℕ) (pairs : List Pair) (lits : List Lit) → 2 ≤ length lits → length (balanced_and first pairs (front_half lits)).pairs ≤ length (balanced_and first pairs lits).pairs
balanced_and-front_length first pairs lits two =
    let x : Answer = balanced_and first pairs (front_half lits) in
    let y : Answer = balanced_and first x.pairs (back_half lits) in
    let m : length y.pairs ≤ length (product_of first y.pairs x.lit y.lit).pairs = length-Extends y.pairs (product_of first y.pairs x.lit y.lit).pairs (and_grows first y.pairs (min x.lit y.lit) (max x.lit y.lit)) in
    rw (balanced_and-halves first pairs lits two) (omega (arith, length-Extends x.pairs y.pairs (balanced-grows first (length (back_half lits)) x.pairs (back_half lits))))

pub balanced_and-back_length : (first : ℕ) (pairs : List Pair) (lits : List Lit) → 2 ≤ length lits → length (balanced_and first (balanced_and first pairs (front_half lits)).pairs (back_half lits)).pairs ≤ length (balanced_and first pairs lits).pairs
balanced_and-back_length first pairs lits two = search (rules, balanced_and-halves, length-Extends, and_grows)

-- a literal of a graph is one of a graph with more pairs
pub IsLit-more : (g : Aig) (ps : List Pair) (lit : ℕ) → Extends g.pairs ps → IsLit g lit → IsLit (with_pairs g ps) lit
IsLit-more g ps lit e l = let n : length g.pairs ≤ length ps = length-Extends g.pairs ps e in omega arith

-- what is too long for a part is too long for the whole
pub full_weaker : {P : Type 0} (m n a b : ℕ) → m ≡ n → a ≤ b → (P → m < a) → P → n < b
full_weaker m n a b e l h p = let k : m < a = h p in omega arith
