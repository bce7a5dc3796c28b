-- The values of a graph's literals fit the LUTs of a mapping under the configuration, and a mapping can be played.
use Rattle.bit_fun.proofs.Common.{◌≡◌, ℕ, ◌+◌, ◌-◌, ◌*◌, ◌/◌, ◌%◌, ◌^◌, ◌<◌, ◌≤◌, Bool, true, false, eqb, leb, List, ◌++◌, length, get_or, refl, ap, ◌∙◌, subst, arith, get_or-append, length-map, get_or-map, get_or-append-add, leb-true, leb-false, In, number, choose, Aig, xor, node_value, value_of, FitsGraph, Lut, IsTableOf, bits_of, Shape, last_source, source_value, IsInputOrLatch, input, latch, either_side, base_within, param_count, NodeBit, IsBit, IsMapped, IsConfiguration, zero, suc, [], ◌∷◌, sym, inl, inr, ext_get_or, Regular, IsSource, in_phase, Blocks, member, constant, parameter, IsMapping, source, free, node, HasOneBit, HasOneConfiguration, cases_lt, sum_by-cons, HaveBases, rules, IsLawful}
use Rattle.list_laws.proofs.Digits.{number-small, digit-number}
use Rattle.lut_sim.specs.Cycle.{leaf_values, address}
use Rattle.lut_sim.proofs.RoomLemmas.{regular_within}
use Rattle.bit_fun.proofs.BitLemmas.{AreDigits, fits_bit, AreLeaves, one_bit, HasBit, has_bit, HaveParams, HaveParams-shape}

-- The addresses of the LUTs stand apart, and are all. Where LUTs map a graph, each address has one bit, and there is one configuration.
-- a table's base is not below the sum before
pub base_from : (off : ℕ) (ts : List Lut) (t : Lut) → HaveBases off ts → In ts t → off ≤ t.base
base_from off [] t h i = elim i [ ]
base_from off (u ∷ ts) t h (inl e) = subst (λ (x : Lut). off ≤ x.base) (sym e) (let b : u.base ≡ off = h.0 in omega arith)
base_from off (u ∷ ts) t h (inr i) = let l : off + 2 ^ length u.leaves ≤ t.base = base_from (off + 2 ^ length u.leaves) ts t h.1 i in omega arith

-- the table that has an address
pub record HasAddress (ts : List Lut) (b : ℕ) : Type 0 where
  pub table : Lut
  pub in' : In ts table
  pub from : table.base ≤ b
  pub before : b < table.base + 2 ^ length table.leaves

pub table_at : (off : ℕ) (ts : List Lut) (b : ℕ) → HaveBases off ts → off ≤ b → b < off + bits_of ts → HasAddress ts b
table_at off [] b h low high = absurd (omega arith)
table_at off (u ∷ ts) b h low high =
    let s : bits_of (u ∷ ts) ≡ 2 ^ length u.leaves + bits_of ts = sum_by-cons (λ (x : Lut). 2 ^ length x.leaves) u ts in
    elim (cases_lt b (off + 2 ^ length u.leaves)) [
      | inl here ↦ record { table = u; in' = inl refl; from = omega arith; before = omega arith }
      | inr past ↦
          let t : HasAddress ts b = table_at (off + 2 ^ length u.leaves) ts b h.1 past (omega arith) in
          record { table = t.table; in' = inr t.in'; from = t.from; before = t.before }
    ]

-- and no two tables have the same address
pub one_table : (off : ℕ) (ts : List Lut) (t u : Lut) (b : ℕ) → HaveBases off ts → In ts t → In ts u → t.base ≤ b → b < t.base + 2 ^ length t.leaves → u.base ≤ b → b < u.base + 2 ^ length u.leaves → t ≡ u
one_table off [] t u b h i j tl th ul uh = elim i [ ]
one_table off (x ∷ ts) t u b h (inl e) (inl f) tl th ul uh = e ∙ sym f
one_table off (x ∷ ts) t u b h (inl e) (inr j) tl th ul uh =
    absurd (omega (arith, subst (λ (y : Lut). b < y.base + 2 ^ length y.leaves) e th, base_from (off + 2 ^ length x.leaves) ts u h.1 j, h.0))
one_table off (x ∷ ts) t u b h (inr i) (inl f) tl th ul uh =
    absurd (omega (arith, subst (λ (y : Lut). b < y.base + 2 ^ length y.leaves) f uh, base_from (off + 2 ^ length x.leaves) ts t h.1 i, h.0))
one_table off (x ∷ ts) t u b h (inr i) (inr j) tl th ul uh = one_table (off + 2 ^ length x.leaves) ts t u b h.1 i j tl th ul uh

-- the leaves of a table block its node
pub table_blocks : (g : Aig) (k : ℕ) (t : Lut) → IsTableOf g k t → Blocks g t.leaves (t.lit.0 / 2)
table_blocks g k t (source s odd e) = member (subst (λ c. In c (t.lit.0 / 2)) (sym e) (inl refl))
table_blocks g k t (free (inl z) e) = constant z
table_blocks g k t (free (inr p) e) = parameter p
table_blocks g k t (node a c) = c.blocks

-- they ascend, and each is a regular source or an AND node
pub table_leaves : (g : Aig) (k : ℕ) (t : Lut) → IsTableOf g k t → AreLeaves g t.leaves
table_leaves g k t (source s odd e) = subst (λ c. AreLeaves g c) (sym e) (record { ascending = (λ n i. absurd i, tt); kinds = λ m i. elim i [ inl same ↦ inl (subst (λ n. IsSource g Regular n) (sym same) s) | inr none ↦ absurd none ] })
table_leaves g k t (free z e) = subst (λ c. AreLeaves g c) (sym e) (record { ascending = tt; kinds = λ m i. absurd i })
table_leaves g k t (node a c) = record { ascending = c.ascending; kinds = λ m i. (c.below m i).1 }

-- an address of a table has a bit
bit_at : (g : Aig) (k : ℕ) (luts : List Lut) (params : List Bool) (b : ℕ) (a : HasAddress luts b) → IsTableOf g k a.table → length params ≡ param_count g.kinds → (bit : Bool) × IsBit g luts params b bit
bit_at g k luts params b a is len =
    let t : Lut = a.table in
    let h : HasBit g params t.leaves (b - t.base) (t.lit.0 / 2) = has_bit g params t.leaves (b - t.base) (t.lit.0 / 2) len (table_blocks g k t is) in
    (in_phase t.lit.0 h.bit, record { table = t; in' = a.in'; from = a.from; before = a.before; value = h.bit; by = h.is; is = refl })

-- two bits at an address are one
pub bits_agree : (g : Aig) (k : ℕ) (roots : List ℕ) (bits : ℕ) (luts : List Lut) (params : List Bool) (b : ℕ) (x y : Bool) → IsMapping g k roots luts bits → IsBit g luts params b x → IsBit g luts params b y → x ≡ y
bits_agree g k roots bits luts params b x y mapping p q = grind (arith, one_table, one_bit, table_leaves)

-- each address has one bit
pub has_one_bit : (g : Aig) (luts : List Lut) (params : List Bool) (b : ℕ) → IsMapped g luts → length params ≡ param_count g.kinds → b < bits_of luts → HasOneBit g luts params b
has_one_bit g luts params b m len within =
    let a : HasAddress luts b = table_at 0 luts b (m.mapping).bases (omega arith) (omega arith) in
    let h : (bit : Bool) × IsBit g luts params b bit = bit_at g m.k luts params b a ((m.mapping).table a.table a.in') len in
    record { bit = h.0; is = h.1; only = λ other o. bits_agree g m.k m.roots m.bits luts params b other h.0 m.mapping o h.1 }

-- a list of a bit for each number
one_before : (P : ℕ → Bool → Type 0) (bit : Bool) (bits : List Bool) (count : ℕ) → P 0 bit → ((b : ℕ) → b < count → P (suc b) (get_or bits b false)) → (b : ℕ) → b < suc count → P b (get_or (bit ∷ bits) b false)
one_before P bit bits count first others zero l = first
one_before P bit bits count first others (suc b) l = others b (omega arith)

each_bit : (P : ℕ → Bool → Type 0) (count : ℕ) → ((b : ℕ) → b < count → (bit : Bool) × P b bit) → (bits : List Bool) × (length bits ≡ count) × ((b : ℕ) → b < count → P b (get_or bits b false))
each_bit P zero one = ([], refl, λ b l. absurd (omega arith))
each_bit P (suc count) one =
    let first : (bit : Bool) × P 0 bit = one 0 (omega arith) in
    let rest : (bits : List Bool) × (length bits ≡ count) × ((b : ℕ) → b < count → P (suc b) (get_or bits b false)) = each_bit (λ b bit. P (suc b) bit) count (λ b l. one (suc b) (omega arith)) in
    (first.0 ∷ rest.0, ap suc rest.1, one_before P first.0 rest.0 count first.1 rest.2)

-- the configuration has the bit of each address, and there is no other
pub has_one_configuration : (g : Aig) (luts : List Lut) (params : List Bool) → IsMapped g luts → length params ≡ param_count g.kinds → HasOneConfiguration g luts params
has_one_configuration g luts params m len =
    let all = each_bit (IsBit g luts params) (bits_of luts) (λ b within. let h : HasOneBit g luts params b = has_one_bit g luts params b m len within in (h.bit, h.is)) in
    record {
      bits = all.0;
      is = record { count = all.1; each = all.2 };
      only = λ others o.
          ext_get_or false others all.0 (o.count ∙ sym all.1) (λ b l. bits_agree g m.k m.roots m.bits luts params b _ _ m.mapping (o.each b (omega arith)) (all.2 b (omega arith)));
    }

-- exclusive or with 0 leaves a bit as it is
pub xor-false : (b : Bool) → xor b false ≡ b
xor-false true = refl
xor-false false = refl

-- a positive literal has its node's value
pub positive_value : (values : List Bool) (m : ℕ) → value_of values (2 * m) ≡ node_value values m
positive_value values m = grind arith

-- the value of a regular source among those of all sources
regular_value : (shape : Shape) (inputs params states : List Bool) (n : ℕ) → length inputs ≡ shape.regular → length params ≡ shape.params → IsInputOrLatch shape n
    → get_or (inputs ++ (params ++ states)) (n - 1) false ≡ source_value shape inputs states n
regular_value shape inputs params states n li lp (input low high) = grind (arith, get_or-append, leb, leb-false)
regular_value shape inputs params states n li lp (latch low high) = grind (arith, get_or-append-add, leb, leb-true)

-- the values of a table's leaves are those of their nodes
leaf_digits : (values : List Bool) (leaves : List ℕ) → AreDigits values leaves (number (leaf_values (value_of values) leaves))
leaf_digits values leaves = search (rules, digit-number, length-map, get_or-map, positive_value)

-- the bit at the address of the leaves' values is the table's literal's value
table_value : (g : Aig) (k : ℕ) (luts : List Lut) (params sources values : List Bool) (t : Lut) → FitsGraph g sources values → HaveParams g params sources → length params ≡ param_count g.kinds → In luts t → IsTableOf g k t
    → IsBit g luts params (address (value_of values) t) (value_of values t.lit.0)
table_value g k luts params sources values t fits have len i is =
    let v : ℕ = number (leaf_values (value_of values) t.leaves) in
    let below : v < 2 ^ length t.leaves = subst (λ n. v < 2 ^ n) (length-map t.leaves (λ m. value_of values (2 * m))) (number-small (leaf_values (value_of values) t.leaves)) in
    record {
      table = t;
      in' = i;
      from = omega arith;
      before = omega arith;
      value = node_value values (t.lit.0 / 2);
      by = subst (λ m. NodeBit g params t.leaves m (t.lit.0 / 2) (node_value values (t.lit.0 / 2))) (omega arith)
          (fits_bit g params t.leaves v sources values (t.lit.0 / 2) fits have len (leaf_digits values t.leaves) (table_blocks g k t is));
      is = refl;
    }

pub configuration_lawful : (g : Aig) (luts : List Lut) (params config : List Bool) → IsMapped g luts → length params ≡ param_count g.kinds → IsConfiguration g luts params config → IsLawful g luts params config
configuration_lawful g luts params config m len is shape inputs states sources values has all fits = record {
  source = λ n r. grind (arith, either_side, regular_within, positive_value, regular_value);
  table = λ t i plain.
      let at = table_value g m.k luts params sources values t fits (HaveParams-shape g shape inputs params states sources has all) len i ((m.mapping).table t i) in
      let before : address (value_of values) t < t.base + 2 ^ length t.leaves = address_before (value_of values) t in
      let room : t.base + 2 ^ length t.leaves ≤ 0 + bits_of luts = base_within 0 luts t (m.mapping).bases i in
      bits_agree g m.k m.roots m.bits luts params (address (value_of values) t) _ _ m.mapping at (is.each (address (value_of values) t) (omega arith));
}
  where
    address_before : (value : ℕ → Bool) (t : Lut) → address value t < t.base + 2 ^ length t.leaves
    address_before value t =
        let v : ℕ = number (leaf_values value t.leaves) in
        let small : v < 2 ^ length (leaf_values value t.leaves) = number-small (leaf_values value t.leaves) in
        let below : v < 2 ^ length t.leaves = subst (λ n. v < 2 ^ n) (length-map t.leaves (λ m. value (2 * m))) small in
        omega arith
