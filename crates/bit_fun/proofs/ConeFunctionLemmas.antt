-- The literals of the sources, and the steps of a pass: one node, the nodes of an order, and the leaves before them.
use Rattle.bit_fun.proofs.Common.{◌≡◌, ℕ, zero, suc, ◌+◌, ◌*◌, ◌/◌, ◌<◌, ◌≤◌, Bool, true, false, eqb, List, [], ◌∷◌, length, take, slice_set, Option, Some, None, refl, sym, ap, ◌∙◌, subst, inl, inr, ◌⊎◌, arith, length-append, slice_get, position, length-set, In, bit_value, digit, IsAscending, choose_one, same_or, none-some, same_Some, Lit, Pair, Aig, first_and, node_count, pair_of, Answer, and_in_order, found_or_new, is_pair, with_pairs, PassValue, lit_of, fan_in, made_node, pass_over, with_leaves, HaveSourceLits, HaveLeafLits, AreLits, IsMadeOver, ◌-◌, cases_lt, slice_get_within, Kind, Regular, Parameter, param_count, HaveSourceLitsTo, ◌^◌, ◌++◌, append_assoc, append-nil, add-mul, one-mul, true≢false, AreNormal, Lut, IsTableIn, IsBitReady, IsGrown, AreMarked, IsTableWithin, IsBetween, IsBitMade, AreBitsMade, AreTablesMadeTo, IsFree, mark_of, AreFree, AreKept, HasRoom, free_apart}
use Rattle.std.proofs.Math.Seq.{take-append_seam}
use Rattle.bit_fun.proofs.BitLemmas.{AreLeaves, leaf_not_constant, leaf_not_parameter, regular_no_parameter, place_below}
use Rattle.bit_fun.proofs.ConeMakesLemmas.{lit_other, lit_here, IsPassed, IsVisited, visit_makes}
use Rattle.bit_fun.proofs.FreeLemmas.{known_stands, stands_known, between_marked}
use Rattle.bit_fun.proofs.RoomLemmas.{HasCount, waiting_few, work_split}
use Rattle.bit_fun.specs.PackOf.{MakesNode, MakesTable, done, more, MakesTables, none, tables}

-- a product adds one node at most
found_few : (first : ℕ) (ps : List Pair) (x y : ℕ) (o : Option ℕ) → length (found_or_new first ps x y o).pairs ≤ length ps + 1
found_few first ps x y (Some i) = omega arith
found_few first ps x y None = omega (arith, length-append ps (record { x = record { 0 = x }; y = record { 0 = y } } ∷ []))

pub and_few : (first : ℕ) (ps : List Pair) (x y : ℕ) → length (and_in_order first ps x y).pairs ≤ length ps + 1
and_few first ps x y =
    let P : Answer → Type 0 = λ a. length a.pairs ≤ length ps + 1 in
    choose_one P (eqb x 0) _ _ (omega arith)
    (choose_one P (eqb x 1) _ _ (omega arith)
    (choose_one P (eqb x y) _ _ (omega arith)
    (choose_one P (eqb (x / 2) (y / 2)) _ _ (omega arith)
    (found_few first ps x y (position (is_pair x y) ps)))))

-- literals stay literals while nodes are added
pub lits_grown : (g old new : Aig) (lits : List Lit) → first_and new ≡ first_and old → length old.pairs ≤ length new.pairs → AreLits g old lits → AreLits g new lits
lits_grown g old new lits first grows are = record { long = are.long; below = λ m. let b : lit_of lits m < 2 * node_count old = are.below m in omega arith }

pub lits_set : (g pack : Aig) (lits : List Lit) (n : ℕ) (l : Lit) → n < length lits → l.0 < 2 * node_count pack → AreLits g pack lits → AreLits g pack (slice_set lits n l)
lits_set g pack lits n l within low are = record { long = length-set lits n l ∙ are.long; below = λ m. by m (same_or m n) }
  where
    by : (m : ℕ) → (m ≡ n) ⊎ (m ≡ n → ⊥) → lit_of (slice_set lits n l) m < 2 * node_count pack
    by m (inl e) = let h : lit_of (slice_set lits n l) m ≡ l.0 = ap (lit_of (slice_set lits n l)) e ∙ lit_here lits n l within in omega arith
    by m (inr off) = let b : lit_of lits m < 2 * node_count pack = are.below m in let e : lit_of (slice_set lits n l) m ≡ lit_of lits m = lit_other lits n m l off in omega arith

-- a pack that grows twice
grown_on : (g old mid new : Aig) (some others : ℕ) (lits after : List Lit) → IsGrown g old mid some lits → IsGrown g mid new others after → IsGrown g old new (others + some) after
grown_on g old mid new some others lits after a b = record { same = b.same ∙ ap (λ (m : Aig). with_pairs m new.pairs) a.same; few = omega (arith, a.few, b.few); lits = b.lits }

pub made_more : (g old : Aig) (before : List Lit) (order : List ℕ) (mid : Aig) (lits : List Lit) (n : ℕ) (new : Aig) (after : List Lit) → IsMadeOver g old before order mid lits → IsMadeOver g mid lits (n ∷ []) new after
    → IsMadeOver g old before (n ∷ order) new after
made_more g old before order mid lits n new after a b =
    let first : first_and mid ≡ first_and old = ap (λ (m : Aig). first_and m) (a.grown).same in
    record {
      made = b.made ∙ ap (λ (s : PassValue). made_node (first_and mid) s n (pair_of g n)) a.made ∙ ap (λ f. made_node f (pass_over g (first_and old) (record { pairs = old.pairs; lits = before }) order) n (pair_of g n)) first;
      grown = let longer : 1 + length order ≡ length (n ∷ order) = omega arith in subst (λ k. IsGrown g old new k after) longer (grown_on g old mid new (length order) 1 lits after a.grown b.grown);
    }

-- giving the leaves their literals leaves all others
with_leaves_other : (lits : List Lit) (v place : ℕ) (leaves : List ℕ) (m : ℕ) → (In leaves m → ⊥) → lit_of (with_leaves lits v place leaves) m ≡ lit_of lits m
with_leaves_other lits v place [] m off = refl
with_leaves_other lits v place (n ∷ ns) m off =
    with_leaves_other (slice_set lits n (record { 0 = bit_value (digit v place) })) v (place + 1) ns m (λ i. off (inr i))
    ∙ lit_other lits n m (record { 0 = bit_value (digit v place) }) (λ e. off (inl e))

length-with_leaves : (lits : List Lit) (v place : ℕ) (leaves : List ℕ) → length (with_leaves lits v place leaves) ≡ length lits
length-with_leaves lits v place [] = refl
length-with_leaves lits v place (n ∷ ns) =
    length-with_leaves (slice_set lits n (record { 0 = bit_value (digit v place) })) v (place + 1) ns ∙ length-set lits n (record { 0 = bit_value (digit v place) })

-- each leaf has the constant of its digit, where no leaf stands twice
with_leaves_at : (lits : List Lit) (v place : ℕ) (leaves : List ℕ) (j n : ℕ) → IsAscending leaves → ((m : ℕ) → In leaves m → m < length lits) → slice_get leaves j ≡ Some n
    → lit_of (with_leaves lits v place leaves) n ≡ bit_value (digit v (place + j))
with_leaves_at lits v place [] j n asc inside at = absurd (none-some n at)
with_leaves_at lits v place (k ∷ ks) zero n asc inside at =
    let same : k ≡ n = same_Some k n at in
    let l : Lit = record { 0 = bit_value (digit v place) } in
    let none : place ≡ place + 0 = omega arith in
    subst (λ x. lit_of (with_leaves (slice_set lits k l) v (place + 1) ks) x ≡ bit_value (digit v (place + 0))) same
    (with_leaves_other (slice_set lits k l) v (place + 1) ks k (λ i. let w : k < k = asc.0 k i in omega arith)
    ∙ lit_here lits k l (inside k (inl refl)) ∙ ap (λ x. bit_value (digit v x)) none)
with_leaves_at lits v place (k ∷ ks) (suc j) n asc inside at =
    let l : Lit = record { 0 = bit_value (digit v place) } in
    let long : length (slice_set lits k l) ≡ length lits = length-set lits k l in
    let there : place + 1 + j ≡ place + suc j = omega arith in
    with_leaves_at (slice_set lits k l) v (place + 1) ks j n asc.1 (λ m i. let w : m < length lits = inside m (inr i) in omega arith) at
    ∙ ap (λ x. bit_value (digit v x)) there

pub leaves_set : (lits : List Lit) (v : ℕ) (leaves : List ℕ) → IsAscending leaves → ((m : ℕ) → In leaves m → m < length lits) → HaveLeafLits leaves v (with_leaves lits v 0 leaves)
leaves_set lits v leaves asc inside = record { each = λ j n at. let z : 0 + j ≡ j = omega arith in with_leaves_at lits v 0 leaves j n asc inside at ∙ ap (λ x. bit_value (digit v x)) z }

-- the sources keep their literals
pub sources_stay : (g : Aig) (lits : List Lit) (v : ℕ) (leaves : List ℕ) → AreLeaves g leaves → HaveSourceLits g lits → HaveSourceLits g (with_leaves lits v 0 leaves)
sources_stay g lits v leaves are have = record {
  long = length-with_leaves lits v 0 leaves ∙ have.long;
  constant = with_leaves_other lits v 0 leaves 0 (λ i. leaf_not_constant g leaves 0 are refl i) ∙ have.constant;
  parameter = λ j n is. with_leaves_other lits v 0 leaves n (λ i. leaf_not_parameter g leaves n are is.source i) ∙ have.parameter j n is;
}

-- and all are literals of the pack
pub lits_stay : (g pack : Aig) (lits : List Lit) (v place : ℕ) (leaves : List ℕ) → ((m : ℕ) → In leaves m → m < length lits) → AreLits g pack lits → AreLits g pack (with_leaves lits v place leaves)
lits_stay g pack lits v place [] inside are = are
lits_stay g pack lits v place (n ∷ ns) inside are =
    let l : Lit = record { 0 = bit_value (digit v place) } in
    let long : length (slice_set lits n l) ≡ length lits = length-set lits n l in
    lits_stay g pack (slice_set lits n l) v (place + 1) ns (λ m i. let w : m < length lits = inside m (inr i) in omega arith)
    (lits_set g pack lits n l (inside n (inl refl)) (constant_low (digit v place)) are)
  where
    constant_low : (b : Bool) → bit_value b < 2 * node_count pack
    constant_low true = omega arith
    constant_low false = omega arith

-- the parameters up to a place, by what stands there
count_more : (kinds : List Kind) (i : ℕ) → slice_get kinds i ≡ Some Parameter → param_count (take (suc i) kinds) ≡ param_count (take i kinds) + 1
count_more [] i at = absurd (none-some Parameter at)
count_more (Regular ∷ kinds) zero at = regular_no_parameter at
count_more (Regular ∷ kinds) (suc i) at = count_more kinds i at
count_more (Parameter ∷ kinds) zero at = refl
count_more (Parameter ∷ kinds) (suc i) at = let e : param_count (take (suc i) kinds) ≡ param_count (take i kinds) + 1 = count_more kinds i at in omega arith

count_same : (kinds : List Kind) (i : ℕ) → slice_get kinds i ≡ Some Regular → param_count (take (suc i) kinds) ≡ param_count (take i kinds)
count_same [] i at = absurd (none-some Regular at)
count_same (Regular ∷ kinds) zero at = refl
count_same (Regular ∷ kinds) (suc i) at = count_same kinds i at
count_same (Parameter ∷ kinds) zero at = regular_no_parameter (sym at)
count_same (Parameter ∷ kinds) (suc i) at = ap suc (count_same kinds i at)

-- there are no more of them than of all
count_within : (kinds : List Kind) (i : ℕ) → param_count (take i kinds) ≤ param_count kinds
count_within kinds zero = omega arith
count_within [] (suc i) = omega arith
count_within (Regular ∷ kinds) (suc i) = count_within kinds i
count_within (Parameter ∷ kinds) (suc i) = let l : param_count (take i kinds) ≤ param_count kinds = count_within kinds i in omega arith

pub count_few : (g : Aig) (i count : ℕ) (lits : List Lit) → HaveSourceLitsTo g i count lits → count ≤ param_count g.kinds
count_few g i count lits have = omega (arith, have.counted, count_within g.kinds i)

-- up to the next number, and not that one
below_or : (n k : ℕ) → n ≤ k + 1 → (n ≡ k + 1 → ⊥) → n ≤ k
below_or n k l off = elim (cases_lt k n) [ inl a ↦ absurd (off (omega arith)) | inr a ↦ a ]

pub regular_source : (g : Aig) (i count : ℕ) (lits : List Lit) → slice_get g.kinds (i + 1 - 1) ≡ Some Regular → HaveSourceLitsTo g i count lits → HaveSourceLitsTo g (i + 1) count lits
regular_source g i count lits at have =
    let place : i + 1 - 1 ≡ i = omega arith in
    let next : suc i ≡ i + 1 = omega arith in
    let here : slice_get g.kinds i ≡ Some Regular = subst (λ k. slice_get g.kinds k ≡ Some Regular) place at in
    record {
      counted = have.counted ∙ sym (count_same g.kinds i here) ∙ ap (λ m. param_count (take m g.kinds)) next;
      long = have.long;
      constant = have.constant;
      parameter = λ j n is l. elim (same_or n (i + 1)) [
        | inl e ↦ absurd (let k : n - 1 ≡ i = omega arith in regular_no_parameter (sym here ∙ subst (λ m. slice_get g.kinds m ≡ Some Parameter) k (is.source).is))
        | inr off ↦ have.parameter j n is (below_or n i l off)
      ];
      below = have.below;
    }

pub parameter_source : (g : Aig) (i count : ℕ) (lits : List Lit) → slice_get g.kinds (i + 1 - 1) ≡ Some Parameter → HaveSourceLitsTo g i count lits
    → HaveSourceLitsTo g (i + 1) (count + 1) (slice_set lits (i + 1) (record { 0 = 2 * (count + 1) }))
parameter_source g i count lits at have =
    let place : i + 1 - 1 ≡ i = omega arith in
    let next : suc i ≡ i + 1 = omega arith in
    let here : slice_get g.kinds i ≡ Some Parameter = subst (λ k. slice_get g.kinds k ≡ Some Parameter) place at in
    let w : i < length g.kinds = slice_get_within g.kinds i Parameter here in
    let long : length lits ≡ node_count g = have.long in
    let within : i + 1 < length lits = omega arith in
    let l : Lit = record { 0 = 2 * (count + 1) } in
    let c : count ≡ param_count (take i g.kinds) = have.counted in
    let few : param_count (take i g.kinds) < param_count g.kinds = place_below g.kinds i here in
    record {
      counted = ap (λ n. n + 1) c ∙ sym (count_more g.kinds i here) ∙ ap (λ m. param_count (take m g.kinds)) next;
      long = length-set lits (i + 1) l ∙ long;
      constant = lit_other lits (i + 1) 0 l (λ e. omega arith) ∙ have.constant;
      parameter = λ j n is low. elim (same_or n (i + 1)) [
        | inl e ↦
            (let k : n - 1 ≡ i = omega arith in
            let p : param_count (take (n - 1) g.kinds) ≡ j = is.place in
            let q : param_count (take i g.kinds) ≡ j = ap (λ m. param_count (take m g.kinds)) (sym k) ∙ p in
            let r : lit_of (slice_set lits (i + 1) l) n ≡ 2 * (count + 1) = ap (lit_of (slice_set lits (i + 1) l)) e ∙ lit_here lits (i + 1) l within in
            omega arith)
        | inr off ↦ lit_other lits (i + 1) n l off ∙ have.parameter j n is (below_or n i low off)
      ];
      below = λ m. elim (same_or m (i + 1)) [
        | inl e ↦ (let r : lit_of (slice_set lits (i + 1) l) m ≡ 2 * (count + 1) = ap (lit_of (slice_set lits (i + 1) l)) e ∙ lit_here lits (i + 1) l within in omega arith)
        | inr off ↦ (let r : lit_of (slice_set lits (i + 1) l) m ≡ lit_of lits m = lit_other lits (i + 1) m l off in let b : lit_of lits m < 2 * (1 + param_count g.kinds) = have.below m in omega arith)
      ];
    }

-- A pass over a LUT's order makes the LUT's bit for v; bits of a LUT and LUTs, one after the other.
-- a table's leaves
pub leaves_in : (g : Aig) (t : Lut) → IsTableIn g t → AreLeaves g t.leaves
leaves_in g t is = record { ascending = is.ascending; kinds = is.kinds }

-- each has a literal
pub leaf_inside : (g pack : Aig) (t : Lut) (lits : List Lit) → IsTableIn g t → AreLits g pack lits → (m : ℕ) → In t.leaves m → m < length lits
leaf_inside g pack t lits is are m i = elim (is.kinds m i) [
  | inl r ↦ omega (arith, are.long, slice_get_within g.kinds (m - 1) Regular r.is, r.above)
  | inr a ↦ omega (arith, are.long, a.1)
]

-- the bit of a table for v
pub bit_made : (g : Aig) (luts : List Lut) (kept : List Bool) (t : Lut) (v : ℕ) (order : List ℕ) (old : Aig) (before lits : List Lit) (new : Aig) (after : List Lit) (bit : Lit) → AreNormal (first_and g) g.pairs → IsTableIn g t
    → IsBitReady g luts kept t order old before → lits ≡ with_leaves before v 0 t.leaves → IsMadeOver g old lits order new after → bit.0 ≡ fan_in after t.lit.0
    → IsBitMade g luts kept t v order old new after bit
bit_made g luts kept t v order old before lits new after bit normal is ready set made lit =
    let among : In luts t = ready.among in
    let between : IsBetween g luts old kept before = ready.between in
    let start : PassValue = record { pairs = old.pairs; lits = lits } in
    let are : AreLeaves g t.leaves = leaves_in g t is in
    let at : first_and new ≡ first_and old = ap (λ (m : Aig). first_and m) (made.grown).same in
    let free : (m : ℕ) → mark_of kept m ≡ true → IsFree g luts m = ((between.keeps).free).each in
    let have : IsPassed g (first_and old) t.leaves v kept start [] = record {
      sources = subst (HaveSourceLits g) (sym set) (sources_stay g before v t.leaves are between.sources);
      leaves_have = subst (HaveLeafLits t.leaves v) (sym set) (leaves_set before v t.leaves is.ascending (leaf_inside g old t before is between.literals));
      kept_known = λ m k.
          stands_known g luts t v old before lits m among are (free m k)
          (ap (λ (ls : List Lit). lit_of ls m) set ∙ with_leaves_other before v 0 t.leaves m (free_apart g luts t m among are.kinds (free m k))) ((between.keeps).stand m k);
      known = λ m i. absurd i;
    } in
    let all : IsVisited g (first_and old) t.leaves v kept start [] (t.lit.0 / 2) (pass_over g (first_and old) start order) order =
    visit_makes g (first_and old) t.leaves v kept are (Unit {0}) start normal (suc (t.lit.0 / 2)) (t.lit.0 / 2) (omega arith) is.inside is.blocks [] order (ready.order_is).visit have in
    let over : IsVisited g (first_and old) t.leaves v kept start [] (t.lit.0 / 2) (record { pairs = new.pairs; lits = after }) order =
    subst (λ (s : PassValue). IsVisited g (first_and old) t.leaves v kept start [] (t.lit.0 / 2) s order) (sym made.made) all in
    record {
      lit = lit_of after (t.lit.0 / 2);
      makes = over.makes;
      is = ap (λ k. record { 0 = k }) lit;
      same = (made.grown).same;
      between = record {
        literals = (made.grown).lits;
        sources = (over.passed_on).sources;
        keeps = record { free = (between.keeps).free; stand = λ m k. known_stands g luts t (first_and old) v new after m among are at (free m k) ((over.passed_on).kept_known m k) };
      };
      stand = λ m i f. known_stands g luts t (first_and old) v new after m among are at f ((over.passed_on).known m i);
    }

-- no bits, one more, and those of two stretches
pub no_bits : (g : Aig) (luts : List Lut) (t : Lut) (v : ℕ) (old : Aig) (before : List Lit) (kept : List Bool) (lits : List Lit) → IsBetween g luts old kept lits → AreBitsMade g luts t v v old before old kept lits before
no_bits g luts t v old before kept lits between = record { added = []; are = sym (append-nil before); makes = λ rest m. m; same = refl; between = between }

pub one_bit_more : (g : Aig) (luts : List Lut) (t : Lut) (from v : ℕ) (order : List ℕ) (old : Aig) (before : List Lit) (mid : Aig) (kept : List Bool) (lits bits : List Lit) (new : Aig) (after later : List Lit) (bit : Lit)
    → AreBitsMade g luts t from v old before mid kept lits bits → IsBitMade g luts kept t v order mid new after bit → later ≡ bits ++ bit ∷ []
    → AreBitsMade g luts t from (v + 1) old before new kept after later
one_bit_more g luts t from v order old before mid kept lits bits new after later bit a b e =
    let first : first_and mid ≡ first_and old = ap (λ (m : Aig). first_and m) a.same in
    let next : 1 + v ≡ v + 1 = omega arith in
    record {
      added = a.added ++ bit ∷ [];
      are = e ∙ ap (λ xs. xs ++ bit ∷ []) a.are ∙ append_assoc before a.added (bit ∷ []);
      makes = λ rest m.
          let m' : MakesTable g (first_and old) t new.pairs (1 + v) rest = subst (λ k. MakesTable g (first_and old) t new.pairs k rest) (sym next) m in
          let here : MakesNode g (first_and old) t.leaves v mid.pairs (t.lit.0 / 2) (record { pairs = new.pairs; lit = b.lit }) = subst (λ f. MakesNode g f t.leaves v mid.pairs (t.lit.0 / 2) (record { pairs = new.pairs; lit = b.lit })) first b.makes in
          let step : MakesTable g (first_and old) t mid.pairs v (record { pairs = rest.pairs; bits = bit ∷ rest.bits }) =
          more (record { pairs = new.pairs; lit = b.lit }) rest here m' (ap (λ (l : Lit). record { pairs = rest.pairs; bits = l ∷ rest.bits }) b.is) in
          subst (λ (xs : List Lit). MakesTable g (first_and old) t old.pairs from (record { pairs = rest.pairs; bits = xs })) (sym (append_assoc a.added (bit ∷ []) rest.bits))
          (a.makes (record { pairs = rest.pairs; bits = bit ∷ rest.bits }) step);
      same = b.same ∙ ap (λ (m : Aig). with_pairs m new.pairs) a.same;
      between = b.between;
    }

pub bits_on : (g : Aig) (luts : List Lut) (t : Lut) (from mid_place to : ℕ) (old : Aig) (before : List Lit) (mid : Aig) (kept : List Bool) (lits bits : List Lit) (new : Aig) (kept_after : List Bool) (after later : List Lit)
    → AreBitsMade g luts t from mid_place old before mid kept lits bits → AreBitsMade g luts t mid_place to mid bits new kept_after after later → AreBitsMade g luts t from to old before new kept_after after later
bits_on g luts t from mid_place to old before mid kept lits bits new kept_after after later a b =
    let first : first_and mid ≡ first_and old = ap (λ (m : Aig). first_and m) a.same in
    record {
      added = a.added ++ b.added;
      are = b.are ∙ ap (λ xs. xs ++ b.added) a.are ∙ append_assoc before a.added b.added;
      makes = λ rest m.
          let later_on : MakesTable g (first_and mid) t mid.pairs mid_place (record { pairs = rest.pairs; bits = b.added ++ rest.bits }) =
          b.makes rest (subst (λ f. MakesTable g f t new.pairs to rest) (sym first) m) in
          subst (λ (xs : List Lit). MakesTable g (first_and old) t old.pairs from (record { pairs = rest.pairs; bits = xs })) (sym (append_assoc a.added b.added rest.bits))
          (a.makes (record { pairs = rest.pairs; bits = b.added ++ rest.bits }) (subst (λ f. MakesTable g f t mid.pairs mid_place (record { pairs = rest.pairs; bits = b.added ++ rest.bits })) first later_on));
      same = b.same ∙ ap (λ (m : Aig). with_pairs m new.pairs) a.same;
      between = b.between;
    }

-- the first bit of a table, and the free nodes of its order are kept
pub first_made : (g : Aig) (luts : List Lut) (free : List Bool) (t : Lut) (order : List ℕ) (old : Aig) (before : List Lit) (kept marked : List Bool) (lits : List Lit) (new : Aig) (after later : List Lit) (bit : Lit)
    → IsBetween g luts old kept lits → AreFree g luts free → IsBitMade g luts kept t 0 order old new after bit → later ≡ before ++ bit ∷ []
    → AreMarked free kept marked order → AreBitsMade g luts t 0 1 old before new marked after later
first_made g luts free t order old before kept marked lits new after later bit between are b e marks =
    let one : AreBitsMade g luts t 0 (0 + 1) old before new kept after later =
    one_bit_more g luts t 0 0 order old before old kept lits before new after later bit (no_bits g luts t 0 old before kept lits between) b e in
    record {
      added = one.added;
      are = one.are;
      makes = one.makes;
      same = one.same;
      between = between_marked g luts new after free kept marked order are marks b.stand one.between;
    }

-- all bits of a table, so that it is made
table_done : (g : Aig) (luts : List Lut) (t : Lut) (old : Aig) (before : List Lit) (new : Aig) (kept : List Bool) (lits later : List Lit) (b : AreBitsMade g luts t 0 (2 ^ length t.leaves) old before new kept lits later)
    → MakesTable g (first_and old) t old.pairs 0 (record { pairs = new.pairs; bits = b.added })
table_done g luts t old before new kept lits later b =
    subst (λ (xs : List Lit). MakesTable g (first_and old) t old.pairs 0 (record { pairs = new.pairs; bits = xs })) (append-nil b.added) (b.makes (record { pairs = new.pairs; bits = [] }) (done refl refl))

-- no tables, and one more
pub no_tables : (g : Aig) (free : List Bool) (tables : List Lut) (old : Aig) (kept : List Bool) (lits : List Lit) → HasCount g free tables → length old.pairs + 33554432 ≤ old.max → IsBetween g tables old kept lits → AreTablesMadeTo g free tables tables old old kept lits []
no_tables g free ts old kept lits has room between =
    record { makes = λ rest m. m; same = refl; shared = has.shared; work = has.work; is = has.is; room = omega (arith, room, has.light, waiting_few kept has.shared); between = between }

-- the pack has room for the bits of the next table
pub table_room : (g : Aig) (free : List Bool) (all : List Lut) (t : Lut) (left : List Lut) (old mid : Aig) (kept : List Bool) (lits bits : List Lit) → AreTablesMadeTo g free all (t ∷ left) old mid kept lits bits → HasRoom g free t kept mid
table_room g free all t left old mid kept lits bits a =
    let max : mid.max ≡ old.max = ap (λ (m : Aig). m.max) a.same in
    let own : List ℕ = a.is.0 in
    record { own = own; shared = a.shared; counted = a.is.2; room = omega (arith, max, a.room, work_split (2 ^ length t.leaves) (length own) a.is.1 a.work a.is.4) }

pub one_table_more : (g : Aig) (free : List Bool) (all : List Lut) (t : Lut) (left : List Lut) (old mid : Aig) (kept : List Bool) (lits bits : List Lit) (new : Aig) (kept_after : List Bool) (after later : List Lit) → AreTablesMadeTo g free all (t ∷ left) old mid kept lits bits
    → AreBitsMade g all t 0 (2 ^ length t.leaves) mid bits new kept_after after later → IsTableWithin g free t mid kept new kept_after → AreTablesMadeTo g free all left old new kept_after after later
one_table_more g free all t left old mid kept lits bits new kept_after after later a b within =
    let first : first_and mid ≡ first_and old = ap (λ (m : Aig). first_and m) a.same in
    let here : MakesTable g (first_and old) t mid.pairs 0 (record { pairs = new.pairs; bits = b.added }) =
    subst (λ f. MakesTable g f t mid.pairs 0 (record { pairs = new.pairs; bits = b.added })) first (table_done g all t mid bits new kept_after after later b) in
    let own : List ℕ = a.is.0 in
    record {
      makes = λ rest m.
          subst (λ (xs : List Lit). MakesTables g (first_and old) old.pairs all (record { pairs = rest.pairs; bits = xs })) (sym (append_assoc bits b.added rest.bits) ∙ ap (λ xs. xs ++ rest.bits) (sym b.are))
          (a.makes (record { pairs = rest.pairs; bits = b.added ++ rest.bits }) (tables t left (record { pairs = new.pairs; bits = b.added }) rest refl here m refl));
      same = b.same ∙ ap (λ (m : Aig). with_pairs m new.pairs) a.same;
      shared = a.shared;
      work = a.is.1;
      is = a.is.3;
      room = omega (arith, a.room, work_split (2 ^ length t.leaves) (length own) a.is.1 a.work a.is.4, within.few own a.shared a.is.2);
      between = b.between;
    }

-- all tables, so that they are made
pub tables_done : (g : Aig) (free : List Bool) (all : List Lut) (old new : Aig) (kept : List Bool) (lits bits : List Lit) → AreTablesMadeTo g free all [] old new kept lits bits → MakesTables g (first_and old) old.pairs all (record { pairs = new.pairs; bits = bits })
tables_done g free all old new kept lits bits a =
    subst (λ (xs : List Lit). MakesTables g (first_and old) old.pairs all (record { pairs = new.pairs; bits = xs })) (append-nil bits) (a.makes (record { pairs = new.pairs; bits = [] }) (none refl refl))

-- at the start no node is kept
pub none_kept : (g : Aig) (luts : List Lut) (pack : Aig) (kept : List Bool) (lits : List Lit) → ((n : ℕ) → mark_of kept n ≡ false) → AreKept g luts pack kept lits
none_kept g luts pack kept lits clear = record {
  free = record { each = λ n e. absurd (true≢false (sym e ∙ clear n)) };
  stand = λ n e. absurd (true≢false (sym e ∙ clear n));
}

-- one more bit's nodes
pub bits_grown : (g old mid new : Aig) (v long : ℕ) (lits after : List Lit) → 1 ≤ v → IsGrown g old mid ((v - 1) * long) lits → IsGrown g mid new long after → IsGrown g old new ((v + 1 - 1) * long) after
bits_grown g old mid new v long lits after l a b =
    let next : 1 + (v - 1) ≡ v + 1 - 1 = omega arith in
    let times : long + (v - 1) * long ≡ (v + 1 - 1) * long = ap (λ n. n + (v - 1) * long) (sym (one-mul long)) ∙ sym (add-mul 1 (v - 1) long) ∙ ap (λ n. n * long) next in
    subst (λ n. IsGrown g old new n after) times (grown_on g old mid new ((v - 1) * long) long lits after a b)

-- marks that are written back whole
pub written_back : (new rest : List Bool) (len : ℕ) → len ≡ length new → take len (new ++ rest) ≡ new
written_back new rest len e = ap (λ k. take k (new ++ rest)) e ∙ take-append_seam new rest
