-- Under the parameters' values the literals that are made for a node and for the bits of LUTs have the values of these bits.
use Rattle.bit_fun.proofs.Common.{◌≡◌, ℕ, ◌+◌, ◌-◌, ◌*◌, ◌/◌, ◌%◌, ◌<◌, ◌≤◌, Bool, true, false, ◌&&◌, cond, eqb, List, ◌∷◌, length, get_or, refl, sym, ap, ◌∙◌, subst, arith, length-append, slice_get-get_or, bit_value, digit, Pair, Aig, AreNormal, Answer, complement, xor, in_phase, value_of, behind_constant, Extends, Extends-refl, Extends-trans, length-Extends, AreBase, AreBase-sources, Makes, Makes-and, complement-below, value_of-complement, value_of-more, param_count, zero, suc, ◌^◌, ◌++◌, inl, inr, get_or-append, cases_lt, get_or-append-add, sum_by-cons, In, In-append, Lit, Lut, HaveBases, bits_of, min, max, In-get, product_of, and_again, and_grows, rules}
use Rattle.aig_core.proofs.ValueLemmas.{values_from, values_old}
use Rattle.bit_fun.specs.BitFunction.{NodeBit, leaf as leaf_bit, constant as constant_bit, parameter as parameter_bit, node as node_bit}
use Rattle.bit_fun.specs.PackOf.{phase_literal, MakesNode, leaf, constant, parameter, node, BitsMade, MakesTable, done, more, MakesTables, none, tables}
use Rattle.bit_fun.proofs.LawLemmas.{positive_value, xor-false}
use Rattle.bit_fun.proofs.BitLemmas.{param_below, AreLeaves, leaf_not_constant, leaf_not_parameter, one_place, one_pair, node_not_constant, node_not_parameter, constant_not_parameter}

-- The function of a node is made in one way: the cases exclude each other. Making it grows the pack's nodes, and making it again adds nothing.
-- the product of a node's fan-ins
abbrev pub node_product : ℕ → Pair → Answer → Answer → Answer
node_product first p x y = product_of first y.pairs (phase_literal p.x.0 x.lit) (phase_literal p.y.0 y.lit)

-- a node's function is the only one
pub makes_once : (g : Aig) (first : ℕ) (leaves : List ℕ) (v : ℕ) (pairs : List Pair) (n : ℕ) (a b : Answer) → AreLeaves g leaves → MakesNode g first leaves v pairs n a → MakesNode g first leaves v pairs n b → a ≡ b
makes_once g first leaves v pairs n a b are (leaf i at e) (leaf j to f) = e ∙ ap (λ k. record { pairs = pairs; lit = bit_value (digit v k) }) (one_place leaves n i j are.ascending at to) ∙ sym f
makes_once g first leaves v pairs n a b are (leaf i at e) (constant z f) = absurd (leaf_not_constant g leaves n are z (In-get leaves i n at))
makes_once g first leaves v pairs n a b are (leaf i at e) (parameter j is f) = absurd (leaf_not_parameter g leaves n are is.source (In-get leaves i n at))
makes_once g first leaves v pairs n a b are (leaf i at e) (node q u w out is mu mw f) = absurd (out (In-get leaves i n at))
makes_once g first leaves v pairs n a b are (constant z e) (leaf j to f) = absurd (leaf_not_constant g leaves n are z (In-get leaves j n to))
makes_once g first leaves v pairs n a b are (constant z e) (constant y f) = e ∙ sym f
makes_once g first leaves v pairs n a b are (constant z e) (parameter j is f) = absurd (constant_not_parameter g j n z is)
makes_once g first leaves v pairs n a b are (constant z e) (node q u w out is mu mw f) = absurd (node_not_constant g n q z is)
makes_once g first leaves v pairs n a b are (parameter i is e) (leaf j to f) = absurd (leaf_not_parameter g leaves n are is.source (In-get leaves j n to))
makes_once g first leaves v pairs n a b are (parameter i is e) (constant z f) = absurd (constant_not_parameter g i n z is)
makes_once g first leaves v pairs n a b are (parameter i is e) (parameter j to f) = e ∙ ap (λ k. record { pairs = pairs; lit = 2 * (1 + k) }) (sym is.place ∙ to.place) ∙ sym f
makes_once g first leaves v pairs n a b are (parameter i is e) (node q u w out at mu mw f) = absurd (node_not_parameter g i n q is at)
makes_once g first leaves v pairs n a b are (node p x y out at mx my e) (leaf j to f) = absurd (out (In-get leaves j n to))
makes_once g first leaves v pairs n a b are (node p x y out at mx my e) (constant z f) = absurd (node_not_constant g n p z at)
makes_once g first leaves v pairs n a b are (node p x y out at mx my e) (parameter j is f) = absurd (node_not_parameter g j n p is at)
makes_once g first leaves v pairs n a b are (node p x y out at mx my e) (node q u w off to mu mw f) =
    let same : q ≡ p = one_pair g n p q at to in
    let ex : x ≡ u = makes_once g first leaves v pairs (p.x.0 / 2) x u are mx (subst (λ (r : Pair). MakesNode g first leaves v pairs (r.x.0 / 2) u) same mu) in
    let mw' : MakesNode g first leaves v x.pairs (q.y.0 / 2) w = subst (λ (s : Answer). MakesNode g first leaves v s.pairs (q.y.0 / 2) w) (sym ex) mw in
    let ey : y ≡ w = makes_once g first leaves v x.pairs (p.y.0 / 2) y w are my (subst (λ (r : Pair). MakesNode g first leaves v x.pairs (r.y.0 / 2) w) same mw') in
    e ∙ ap (λ (s : Answer). node_product first p s y) ex ∙ ap (λ (s : Answer). node_product first p u s) ey ∙ ap (λ (r : Pair). node_product first r u w) (sym same) ∙ sym f

-- making a node adds to the nodes that stand
pub node_grows : (g : Aig) (first : ℕ) (leaves : List ℕ) (v : ℕ) (pairs : List Pair) (n : ℕ) (made : Answer) → MakesNode g first leaves v pairs n made → Extends pairs made.pairs
node_grows g first leaves v pairs n made (leaf j at e) = subst (λ (a : Answer). Extends pairs a.pairs) (sym e) (Extends-refl pairs)
node_grows g first leaves v pairs n made (constant z e) = subst (λ (a : Answer). Extends pairs a.pairs) (sym e) (Extends-refl pairs)
node_grows g first leaves v pairs n made (parameter j is e) = subst (λ (a : Answer). Extends pairs a.pairs) (sym e) (Extends-refl pairs)
node_grows g first leaves v pairs n made (node p x y out is mx my e) =
    let b : ℕ = phase_literal p.y.0 y.lit in
    subst (λ (s : Answer). Extends pairs s.pairs) (sym e)
    (Extends-trans pairs x.pairs _ (node_grows g first leaves v pairs (p.x.0 / 2) x mx)
    (Extends-trans x.pairs y.pairs _ (node_grows g first leaves v x.pairs (p.y.0 / 2) y my) (and_grows first y.pairs (min _ b) (max _ b))))

-- making it again, over nodes that extend those that it left, adds nothing and gives the same literal
pub node_again : (g : Aig) (first : ℕ) (leaves : List ℕ) (v : ℕ) (pairs : List Pair) (n : ℕ) (made : Answer) → MakesNode g first leaves v pairs n made
    → (qs : List Pair) → Extends made.pairs qs → MakesNode g first leaves v qs n (record { pairs = qs; lit = made.lit })
node_again g first leaves v pairs n made (leaf j at e) qs ext = leaf j at (ap (λ (a : Answer). record { pairs = qs; lit = a.lit }) e)
node_again g first leaves v pairs n made (constant z e) qs ext = constant z (ap (λ (a : Answer). record { pairs = qs; lit = a.lit }) e)
node_again g first leaves v pairs n made (parameter j is e) qs ext = parameter j is (ap (λ (a : Answer). record { pairs = qs; lit = a.lit }) e)
node_again g first leaves v pairs n made (node p x y out is mx my e) qs ext =
    let b : ℕ = phase_literal p.y.0 y.lit in
    let ez : Extends (node_product first p x y).pairs qs = subst (λ (s : Answer). Extends s.pairs qs) e ext in
    let ey : Extends y.pairs qs = Extends-trans y.pairs (node_product first p x y).pairs qs (and_grows first y.pairs (min _ b) (max _ b)) ez in
    let ex : Extends x.pairs qs = Extends-trans x.pairs y.pairs qs (node_grows g first leaves v x.pairs (p.y.0 / 2) y my) ey in
    node p (record { pairs = qs; lit = x.lit }) (record { pairs = qs; lit = y.lit }) out is
    (node_again g first leaves v pairs (p.x.0 / 2) x mx qs ex) (node_again g first leaves v x.pairs (p.y.0 / 2) y my qs ey)
    (ap (λ (s : Answer). record { pairs = qs; lit = s.lit }) e ∙ sym (and_again first y.pairs qs (min _ b) (max _ b) ez))

-- the bits of a table from v on: v is at most their end
table_within : (g : Aig) (first : ℕ) (t : Lut) (pairs : List Pair) (v : ℕ) (made : BitsMade) → MakesTable g first t pairs v made → v ≤ 2 ^ length t.leaves
table_within g first t pairs v made (done z e) = omega arith
table_within g first t pairs v made (more this others m ms e) = let w : 1 + v ≤ 2 ^ length t.leaves = table_within g first t this.pairs (1 + v) others ms in omega arith

-- the bits so far, behind a table's
abbrev bit_more : Lut → Answer → BitsMade → BitsMade
bit_more t this others = record { pairs = others.pairs; bits = record { 0 = phase_literal t.lit.0 this.lit } ∷ others.bits }

-- a table's bits are made in one way
pub table_once : (g : Aig) (first : ℕ) (t : Lut) (pairs : List Pair) (v : ℕ) (a b : BitsMade) → AreLeaves g t.leaves → MakesTable g first t pairs v a → MakesTable g first t pairs v b → a ≡ b
table_once g first t pairs v a b are (done z e) (done y f) = e ∙ sym f
table_once g first t pairs v a b are (done z e) (more this others m ms f) = absurd (let w : 1 + v ≤ 2 ^ length t.leaves = table_within g first t this.pairs (1 + v) others ms in omega arith)
table_once g first t pairs v a b are (more this others m ms e) (done z f) = absurd (let w : 1 + v ≤ 2 ^ length t.leaves = table_within g first t this.pairs (1 + v) others ms in omega arith)
table_once g first t pairs v a b are (more this others m ms e) (more that next k ks f) =
    let same : this ≡ that = makes_once g first t.leaves v pairs (t.lit.0 / 2) this that are m k in
    let rest : others ≡ next = table_once g first t this.pairs (1 + v) others next are ms (subst (λ (s : Answer). MakesTable g first t s.pairs (1 + v) next) (sym same) ks) in
    e ∙ ap (λ (s : Answer). bit_more t s others) same ∙ ap (λ (s : BitsMade). bit_more t that s) rest ∙ sym f

abbrev both_made : BitsMade → BitsMade → BitsMade
both_made these others = record { pairs = others.pairs; bits = these.bits ++ others.bits }

-- and so are the bits of all tables
pub tables_once : (g : Aig) (first : ℕ) (pairs : List Pair) (luts : List Lut) (a b : BitsMade) → ((t : Lut) → In luts t → AreLeaves g t.leaves) → MakesTables g first pairs luts a → MakesTables g first pairs luts b → a ≡ b
tables_once g first pairs luts a b are (none z e) (none y f) = e ∙ sym f
tables_once g first pairs luts a b are (none z e) (tables t rest these others q m ms f) = absurd (cc)
tables_once g first pairs luts a b are (tables t rest these others q m ms e) (none z f) = absurd (cc)
tables_once g first pairs luts a b are (tables t rest these others q m ms e) (tables u left those next r k ks f) =
    let are' : (x : Lut) → In (t ∷ rest) x → AreLeaves g x.leaves = subst (λ (ls : List Lut). (x : Lut) → In ls x → AreLeaves g x.leaves) q are in
    let same : these ≡ those = table_once g first t pairs 0 these those (are' t (inl refl)) m (subst (λ (x : Lut). MakesTable g first x pairs 0 those) (sym cc) k) in
    let ks' : MakesTables g first those.pairs rest next = subst (λ (ls : List Lut). MakesTables g first those.pairs ls next) (sym cc) ks in
    let after : others ≡ next = tables_once g first these.pairs rest others next (λ x i. are' x (inr i)) ms (subst (λ (s : BitsMade). MakesTables g first s.pairs rest next) (sym same) ks') in
    e ∙ ap (λ (s : BitsMade). both_made s others) same ∙ ap (λ (s : BitsMade). both_made those s) after ∙ sym f

-- the values of the nodes under the parameters' values, where these pairs are the AND nodes
abbrev pub values_over : List Bool → List Pair → List Bool
values_over params pairs = values_from (false ∷ params) pairs

-- exclusive or with 1 is the other bit
xor-true : (b : Bool) → xor b true ≡ xor true b
xor-true true = refl
xor-true false = refl

-- a literal in its phase has the value in this phase
pub phase_value : (values : List Bool) (lit made : ℕ) → value_of values (phase_literal lit made) ≡ in_phase lit (value_of values made)
phase_value values lit made = grind arith

-- and is a literal of the same nodes
pub phase_below : (lit made count : ℕ) → made < 2 * count → phase_literal lit made < 2 * count
phase_below lit made count l = grind arith

-- What is made for a node: the nodes grow and stay normal, and the literal has the value of the node's bit.
pub record IsMade (g : Aig) (params : List Bool) (first : ℕ) (leaves : List ℕ) (v : ℕ) (pairs : List Pair) (n : ℕ) (made : Answer) : Type 0 where
  pub grows : Extends pairs made.pairs
  pub normal : AreNormal first made.pairs
  pub below : made.lit < 2 * (first + length made.pairs)
  pub bit : Bool
  pub is : NodeBit g params leaves v n bit
  pub value : value_of (values_over params made.pairs) made.lit ≡ bit

constant_value : (params : List Bool) (pairs : List Pair) (b : Bool) → value_of (values_over params pairs) (bit_value b) ≡ b
constant_value params pairs true = ap (λ b. xor b true) (values_old (false ∷ params) pairs 0 (omega arith))
constant_value params pairs false = ap (λ b. xor b false) (values_old (false ∷ params) pairs 0 (omega arith))

constant_below : (first : ℕ) (pairs : List Pair) (b : Bool) → 1 ≤ first → bit_value b < 2 * (first + length pairs)
constant_below first pairs true some = omega arith
constant_below first pairs false some = omega arith

parameter_value : (params : List Bool) (pairs : List Pair) (j : ℕ) → j < length params → value_of (values_over params pairs) (2 * (1 + j)) ≡ get_or params j false
parameter_value params pairs j l = grind (arith, positive_value, values_over, values_old, behind_constant)

pub is_made : (g : Aig) (params : List Bool) (first : ℕ) (leaves : List ℕ) (v : ℕ) (pairs : List Pair) (n : ℕ) (made : Answer) → first ≡ 1 + length params → length params ≡ param_count g.kinds → AreNormal first pairs
    → MakesNode g first leaves v pairs n made → IsMade g params first leaves v pairs n made
is_made g params first leaves v pairs n made at len normal (leaf j to e) = subst (λ (a : Answer). IsMade g params first leaves v pairs n a) (sym e) (record {
  grows = Extends-refl pairs;
  normal = normal;
  below = constant_below first pairs (digit v j) (omega arith);
  bit = digit v j;
  is = leaf_bit j to refl;
  value = constant_value params pairs (digit v j);
})
is_made g params first leaves v pairs n made at len normal (constant z e) = subst (λ (a : Answer). IsMade g params first leaves v pairs n a) (sym e) (record {
  grows = Extends-refl pairs;
  normal = normal;
  below = constant_below first pairs false (omega arith);
  bit = false;
  is = constant_bit z refl;
  value = constant_value params pairs false;
})
is_made g params first leaves v pairs n made at len normal (parameter j is e) =
    let l : j < param_count g.kinds = param_below g j n is in
    subst (λ (a : Answer). IsMade g params first leaves v pairs n a) (sym e) (record {
      grows = Extends-refl pairs;
      normal = normal;
      below = omega arith;
      bit = get_or params j false;
      is = parameter_bit j is (slice_get-get_or params j false (omega arith));
      value = parameter_value params pairs j (omega arith);
    })
is_made g params first leaves v pairs n made at len normal (node p x y out is mx my e) =
    let hx : IsMade g params first leaves v pairs (p.x.0 / 2) x = is_made g params first leaves v pairs (p.x.0 / 2) x at len normal mx in
    let hy : IsMade g params first leaves v x.pairs (p.y.0 / 2) y = is_made g params first leaves v x.pairs (p.y.0 / 2) y at len hx.normal my in
    let b : ℕ = phase_literal p.y.0 y.lit in
    let more : length x.pairs ≤ length y.pairs = length-Extends x.pairs y.pairs hy.grows in
    let both : Makes first y.pairs _ (node_product first p x y) =
    Makes-and first y.pairs (phase_literal p.x.0 x.lit) b hy.normal (omega arith) (phase_below p.x.0 x.lit (first + length y.pairs) (omega arith)) (phase_below p.y.0 y.lit (first + length y.pairs) hy.below) in
    subst (λ (s : Answer). IsMade g params first leaves v pairs n s) (sym e) (record {
      grows = Extends-trans pairs x.pairs _ hx.grows (Extends-trans x.pairs y.pairs _ hy.grows both.grows);
      normal = both.normal;
      below = both.below;
      bit = in_phase p.x.0 hx.bit && in_phase p.y.0 hy.bit;
      is = node_bit p hx.bit hy.bit out is hx.is hy.is refl;
      value =
          both.value (false ∷ params) (subst (λ m. AreBase m (false ∷ params)) (sym at) (AreBase-sources params (length params) refl))
          ∙ ap (λ c. c && value_of (values_over params y.pairs) b) (phase_value (values_over params y.pairs) p.x.0 x.lit
          ∙ ap (in_phase p.x.0) (value_of-more (false ∷ params) x.pairs y.pairs x.lit hy.grows (omega arith) ∙ hx.value))
          ∙ ap (λ c. in_phase p.x.0 hx.bit && c) (phase_value (values_over params y.pairs) p.y.0 y.lit ∙ ap (in_phase p.y.0) hy.value);
    })

-- the literal of a place, and 0 past the end
abbrev pub literal_at : List Lit → ℕ → ℕ
literal_at bits i = (get_or bits i (record { 0 = 0 })).0

-- a literal has the value of a table's bit for v, over these nodes
pub record HasTableBit (g : Aig) (params : List Bool) (t : Lut) (v : ℕ) (pairs : List Pair) (lit : ℕ) : Type 0 where
  pub value : Bool
  pub by : NodeBit g params t.leaves v (t.lit.0 / 2) value
  pub is : value_of (values_over params pairs) lit ≡ in_phase t.lit.0 value

-- what is made for the bits of a table from v on
pub record IsTableMade (g : Aig) (params : List Bool) (first : ℕ) (t : Lut) (pairs : List Pair) (v : ℕ) (made : BitsMade) : Type 0 where
  pub grows : Extends pairs made.pairs
  pub normal : AreNormal first made.pairs
  pub count : v + length made.bits ≡ 2 ^ length t.leaves
  pub lits : (l : Lit) → In made.bits l → l.0 < 2 * (first + length made.pairs)
  pub each : (qs : List Pair) → Extends made.pairs qs → (i : ℕ) → i < length made.bits → HasTableBit g params t (v + i) qs (literal_at made.bits i)

pub table_made : (g : Aig) (params : List Bool) (first : ℕ) (t : Lut) (pairs : List Pair) (v : ℕ) (made : BitsMade) → first ≡ 1 + length params → length params ≡ param_count g.kinds → AreNormal first pairs
    → MakesTable g first t pairs v made → IsTableMade g params first t pairs v made
table_made g params first t pairs v made at len normal (done z e) = search rules
table_made g params first t pairs v made at len normal (more this others m ms e) =
    let here : IsMade g params first t.leaves v pairs (t.lit.0 / 2) this = is_made g params first t.leaves v pairs (t.lit.0 / 2) this at len normal m in
    let rest : IsTableMade g params first t this.pairs (1 + v) others = table_made g params first t this.pairs (1 + v) others at len here.normal ms in
    let long : length this.pairs ≤ length others.pairs = length-Extends this.pairs others.pairs rest.grows in
    subst (λ (x : BitsMade). IsTableMade g params first t pairs v x) (sym e) (record {
      grows = Extends-trans pairs this.pairs others.pairs here.grows rest.grows;
      normal = rest.normal;
      count = let c : 1 + v + length others.bits ≡ 2 ^ length t.leaves = rest.count in omega arith;
      lits = λ l i. elim i [
        | inl same ↦ subst (λ (x : Lit). x.0 < 2 * (first + length others.pairs)) (sym same) (phase_below t.lit.0 this.lit (first + length others.pairs) (omega arith))
        | inr j ↦ rest.lits l j
      ];
      each = λ qs ext i l. place qs (Extends-trans this.pairs others.pairs qs rest.grows ext) here (λ k h. rest.each qs ext k h) i l;
    })
  where
    place : (qs : List Pair) → Extends this.pairs qs → IsMade g params first t.leaves v pairs (t.lit.0 / 2) this
        → ((k : ℕ) → k < length others.bits → HasTableBit g params t (1 + v + k) qs (literal_at others.bits k))
        → (i : ℕ) → i < length (record { 0 = phase_literal t.lit.0 this.lit } ∷ others.bits) → HasTableBit g params t (v + i) qs (literal_at (record { 0 = phase_literal t.lit.0 this.lit } ∷ others.bits) i)
    place qs ext here rest zero l =
        let same : v ≡ v + 0 = omega arith in
        let low : this.lit < 2 * (first + length this.pairs) = here.below in
        record {
          value = here.bit;
          by = subst (λ m. NodeBit g params t.leaves m (t.lit.0 / 2) here.bit) same here.is;
          is = phase_value (values_over params qs) t.lit.0 this.lit ∙ ap (in_phase t.lit.0) (value_of-more (false ∷ params) this.pairs qs this.lit ext (omega arith) ∙ here.value);
        }
    place qs ext here rest (suc i) l =
        let same : 1 + v + i ≡ v + suc i = omega arith in
        subst (λ m. HasTableBit g params t m qs (literal_at others.bits i)) same (rest i (omega arith))

-- a literal has the value of the bit at an address
pub record HasBitAt (g : Aig) (params : List Bool) (luts : List Lut) (b : ℕ) (pairs : List Pair) (lit : ℕ) : Type 0 where
  pub table : Lut
  pub in' : In luts table
  pub from : table.base ≤ b
  pub before : b < table.base + 2 ^ length table.leaves
  pub has : HasTableBit g params table (b - table.base) pairs lit

-- what is made for the bits of tables from an address on
pub record AreTablesMade (g : Aig) (params : List Bool) (first off : ℕ) (luts : List Lut) (pairs : List Pair) (made : BitsMade) : Type 0 where
  pub grows : Extends pairs made.pairs
  pub normal : AreNormal first made.pairs
  pub count : length made.bits ≡ bits_of luts
  pub lits : (l : Lit) → In made.bits l → l.0 < 2 * (first + length made.pairs)
  pub each : (qs : List Pair) → Extends made.pairs qs → (i : ℕ) → i < length made.bits → HasBitAt g params luts (off + i) qs (literal_at made.bits i)

-- a bit of the first table, and one of the others
first_bit : (g : Aig) (params : List Bool) (off : ℕ) (t : Lut) (rest : List Lut) (qs : List Pair) (i lit : ℕ) → t.base ≡ off → i < 2 ^ length t.leaves → HasTableBit g params t (0 + i) qs lit → HasBitAt g params (t ∷ rest) (off + i) qs lit
first_bit g params off t rest qs i lit base l has = grind arith

later_bit : (g : Aig) (params : List Bool) (t : Lut) (rest : List Lut) (qs : List Pair) (b lit : ℕ) → HasBitAt g params rest b qs lit → HasBitAt g params (t ∷ rest) b qs lit
later_bit g params t rest qs b lit h = record { table = h.table; in' = inr h.in'; from = h.from; before = h.before; has = h.has }

pub tables_made : (g : Aig) (params : List Bool) (first off : ℕ) (luts : List Lut) (pairs : List Pair) (made : BitsMade) → first ≡ 1 + length params → length params ≡ param_count g.kinds → HaveBases off luts
    → AreNormal first pairs → MakesTables g first pairs luts made → AreTablesMade g params first off luts pairs made
tables_made g params first off luts pairs made at len bases normal (none z e) = search rules
tables_made g params first off luts pairs made at len bases normal (tables t rest these others q m ms e) =
    let bases' : HaveBases off (t ∷ rest) = subst (HaveBases off) q bases in
    let here : IsTableMade g params first t pairs 0 these = table_made g params first t pairs 0 these at len normal m in
    let left : AreTablesMade g params first (off + 2 ^ length t.leaves) rest these.pairs others = tables_made g params first (off + 2 ^ length t.leaves) rest these.pairs others at len bases'.1 here.normal ms in
    let long : length these.pairs ≤ length others.pairs = length-Extends these.pairs others.pairs left.grows in
    let whole : length (these.bits ++ others.bits) ≡ length these.bits + length others.bits = length-append these.bits others.bits in
    subst (λ (ls : List Lut). AreTablesMade g params first off ls pairs made) (sym q) (subst (λ (x : BitsMade). AreTablesMade g params first off (t ∷ rest) pairs x) (sym e) (record {
      grows = Extends-trans pairs these.pairs others.pairs here.grows left.grows;
      normal = left.normal;
      count = whole ∙ ap (λ k. k + length others.bits) (let z : length these.bits ≡ 2 ^ length t.leaves = omega arith in z) ∙ ap (λ k. 2 ^ length t.leaves + k) left.count ∙ sym (sum_by-cons (λ (u : Lut). 2 ^ length u.leaves) t rest);
      lits = λ l i. elim (In-append these.bits others.bits l i) [
        | inl j ↦ (let low : l.0 < 2 * (first + length these.pairs) = here.lits l j in omega arith)
        | inr j ↦ left.lits l j
      ];
      each = λ qs ext i l. elim (cases_lt i (length these.bits)) [
        | inl h ↦
            subst (λ x. HasBitAt g params (t ∷ rest) (off + i) qs x) (ap (λ (x : Lit). x.0) (sym (get_or-append these.bits others.bits (record { 0 = 0 }) i h)))
            (first_bit g params off t rest qs i _ bases'.0 (omega arith) (here.each qs (Extends-trans these.pairs others.pairs qs left.grows ext) i h))
        | inr h ↦
            let k : ℕ = i - length these.bits in
            let there : off + 2 ^ length t.leaves + k ≡ off + i = omega arith in
            let same = ap (λ (x : Lit). x.0) (sym (get_or-append-add these.bits others.bits k (record { 0 = 0 }))) ∙ ap (literal_at (these.bits ++ others.bits)) (omega arith) in
            later_bit g params t rest qs (off + i) _
            (subst (λ b. HasBitAt g params rest b qs (literal_at (these.bits ++ others.bits) i)) there
            (subst (λ x. HasBitAt g params rest (off + 2 ^ length t.leaves + k) qs x) same (left.each qs ext k (omega arith))))
      ];
    }))
