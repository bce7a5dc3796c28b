-- Fields: the names that the test of a name passes are the clean ones that are new; a field that is taken is the spelling of its value, which obeys the rules; and what was spelled is taken again where it obeys them.
use Rattle.ppc_file.proofs.Common.{◌≡◌, ℕ, suc, ◌-◌, ◌*◌, ◌/◌, ◌<◌, ◌≤◌, Bool, true, false, not, ◌||◌, cond, ltb, leb, eqb, bytes_eq, List, [], ◌∷◌, ◌++◌, length, take, drop, Result, Ok, Err, refl, sym, ap, subst, arith, w16, w32, to_be_bytes, list_any, ltb-false, leb-false, or_parts, not-false, length-take, In, IsClean, IsNormal, is_pair, Lit, Pair, PackParam, MOST_NAME_BYTES, PackErr, Version, One, Two, ◌>>=◌, offset, spelled, unless_over, number_at, magic, version_number, bit_byte, param_bytes, node_bytes, bit_bytes, bytes_at, if_magic, magic_at, version_by, version_at, if_some, name_length_at, is_bad_name, if_good_name, name_at, value_at, with_name, value_behind, name_behind, param_at, pair, higher_behind, lower_behind, fan_ins_at, is_bad_pair, if_new_pair, node_at, if_literal, bit_at, ◌∙◌, append_assoc, length-append, le-ltb, lt-leb, or_from, ne_eqb, take_at, drop_at, Field, nat_tests, None, inl, inr, cases_Bool, place_of, is_bad_byte, Width, rules}
use Rattle.std.proofs.lemmas.Slice.Eq.{bytes_eq-Decides}
use Rattle.ppc_file.proofs.NumberLemmas.{IsBytes, Takes, Takes-then, front_taken, bind_ok, guard_ok, ok_is, not_zero, unless_ok, number_takes, wide16, wide32, unless_again, number_again, IsWide}
use Rattle.tl_text.specs.NameSets.{has_name}
use Rattle.tl_text.specs.Lines.{is_bad}
use Rattle.tl_text.specs.Tokens.{is_blank}
use Rattle.tl_text.proofs.NameLemmas.{not_there}
use Rattle.tl_text.proofs.NameSetLemmas.{has_in, place_none}
use Rattle.ppc_file.specs.declared.pack_err.PackErr.TheVariants as refused

-- a test that no element passes
none_in : {A : Type 0} (test : A → Bool) (xs : List A) (x : A) → list_any test xs ≡ false → In xs x → test x ≡ false
none_in test [] x h i = absurd i
none_in test (y ∷ xs) x h (inl e) = subst (λ z. test z ≡ false) (sym e) (or_parts (test y) (list_any test xs) h).0
none_in test (y ∷ xs) x h (inr i) = none_in test xs x (or_parts (test y) (list_any test xs) h).1 i

pub none_all : {A : Type 0} (test : A → Bool) (xs : List A) → ((x : A) → In xs x → test x ≡ false) → list_any test xs ≡ false
none_all test [] h = refl
none_all test (y ∷ xs) h = or_from (test y) (list_any test xs) (h y (inl refl)) (none_all test xs (λ x i. h x (inr i)))

-- the bytes that the test passes, and back
no_blank : (b : ℕ) → is_bad_byte b ≡ false → is_blank b ≡ false
no_blank b good = grind (arith, nat_tests)

no_bad : (b : ℕ) → is_bad_byte b ≡ false → is_bad b ≡ false
no_bad b good = grind (arith, nat_tests)

no_comment : (b : ℕ) → is_bad_byte b ≡ false → b ≡ 35 → ⊥
no_comment b good e = grind (arith, nat_tests)

good_again : (b : ℕ) → is_blank b ≡ false → is_bad b ≡ false → (b ≡ 35 → ⊥) → is_bad_byte b ≡ false
good_again b blank bad comment = grind (arith, nat_tests)

-- a name that the test passes
pub clean_name : (earlier : List (List ℕ)) (name : List ℕ) → 1 ≤ length name → is_bad_name earlier name ≡ false → IsClean name × (In earlier name → ⊥)
clean_name earlier name some h = grind (arith, or_parts, none_in, no_blank, no_bad, no_comment, not_there)

-- a name that isn't there isn't found, and has no place
not_found : (earlier : List (List ℕ)) (name : List ℕ) → (In earlier name → ⊥) → has_name earlier name ≡ false
not_found earlier name new = elim (cases_Bool (has_name earlier name)) [ inl t ↦ absurd (new (has_in earlier name t)) | inr f ↦ f ]

pub new_place : (earlier : List (List ℕ)) (name : List ℕ) → (In earlier name → ⊥) → place_of earlier name ≡ None
new_place earlier name new = place_none earlier name (not_found earlier name new)

pub clean_again : (earlier : List (List ℕ)) (name : List ℕ) → IsClean name → (In earlier name → ⊥) → is_bad_name earlier name ≡ false
clean_again earlier name clean new = grind (arith, or_from, none_all, good_again, not_found)

module _ (total : ℕ) where
  bytes_takes : (n : ℕ) (bytes : List ℕ) (y : List ℕ × List ℕ) → IsBytes bytes → bytes_at total n bytes ≡ Ok y → Takes bytes y.0 y.1 × (length y.0 ≡ n)
  bytes_takes n bytes y fits e =
      let g = guard_ok (ltb (length bytes) n) (refused.Truncated (offset total bytes)) (take n bytes, drop n bytes) y e in
      let long : n ≤ length bytes = ltb-false _ _ g.0 in
      subst (λ (p : List ℕ × List ℕ). Takes bytes p.0 p.1 × (length p.0 ≡ n)) g.1 (front_taken n bytes fits, omega (arith, length-take n bytes))

  pub magic_takes : (bytes : List ℕ) (y : List ℕ × List ℕ) → IsBytes bytes → magic_at total bytes ≡ Ok y → Takes bytes magic y.1
  magic_takes bytes y fits e =
      let x = bind_ok (bytes_at total 4 bytes) (if_magic (offset total bytes)) y e in
      let m = guard_ok (not (bytes_eq x.0.0 magic)) (refused.Magic (offset total bytes)) x.0 y x.2 in
      let is : x.0.0 ≡ magic = (bytes_eq-Decides x.0.0 magic).0 (not-false (bytes_eq x.0.0 magic) m.0) in
      subst (λ (b : List ℕ). Takes bytes b y.1) is (subst (λ (p : List ℕ × List ℕ). Takes bytes x.0.0 p.1) m.1 (bytes_takes 4 bytes x.0 fits x.1).0)

  version_by_ok : (at : ℕ) (x : ℕ × List ℕ) (y : Version × List ℕ) → version_by at x ≡ Ok y → (x.0 ≡ version_number y.0) × (x.1 ≡ y.1)
  version_by_ok at x y e = grind (arith, nat_tests)

  pub version_takes : (bytes : List ℕ) (y : Version × List ℕ) → IsBytes bytes → version_at total bytes ≡ Ok y → Takes bytes (to_be_bytes w16 (version_number y.0)) y.1
  version_takes bytes y fits e =
      let x = bind_ok (number_at total One w16 bytes) (version_by (offset total bytes)) y e in
      let v = version_by_ok (offset total bytes) x.0 y x.2 in
      subst (λ (n : ℕ). Takes bytes (to_be_bytes w16 n) y.1) v.0 (subst (λ (r : List ℕ). Takes bytes (to_be_bytes w16 x.0.0) r) v.1 (number_takes w16 65536 wide16 total One bytes x.0.0 x.0.1 fits x.1).0)

  -- a number that is at most so much
  pub count_takes : (w : Width) (limit : ℕ) → IsWide w limit → (v : Version) (most : ℕ) (e : PackErr) (bytes : List ℕ) (y : ℕ × List ℕ) → IsBytes bytes → unless_over most e (number_at total v w bytes) ≡ Ok y
      → Takes bytes (spelled v w y.0) y.1 × (y.0 ≤ most)
  count_takes w limit wide v most e bytes y fits h =
      let u = unless_ok most e (number_at total v w bytes) y h in
      ((number_takes w limit wide total v bytes y.0 y.1 fits u.0).0, u.1)

  length_takes : (v : Version) (bytes : List ℕ) (y : ℕ × List ℕ) → IsBytes bytes → name_length_at total v bytes ≡ Ok y → Takes bytes (spelled v w16 y.0) y.1 × ((y.0 ≤ MOST_NAME_BYTES) × (1 ≤ y.0))
  length_takes v bytes y fits e =
      let x = bind_ok (unless_over MOST_NAME_BYTES (refused.BadName (offset total bytes)) (number_at total v w16 bytes)) (if_some (offset total bytes)) y e in
      let t = count_takes w16 65536 wide16 v MOST_NAME_BYTES (refused.BadName (offset total bytes)) bytes x.0 fits x.1 in
      let s = guard_ok (eqb x.0.0 0) (refused.BadName (offset total bytes)) x.0 y x.2 in
      subst (λ (z : ℕ × List ℕ). Takes bytes (spelled v w16 z.0) z.1 × ((z.0 ≤ MOST_NAME_BYTES) × (1 ≤ z.0))) s.1 (t.0, (t.1, not_zero x.0.0 s.0))

  name_takes : (earlier : List (List ℕ)) (n : ℕ) (bytes : List ℕ) (y : List ℕ × List ℕ) → IsBytes bytes → name_at total earlier n bytes ≡ Ok y → Takes bytes y.0 y.1 × ((length y.0 ≡ n) × (is_bad_name earlier y.0 ≡ false))
  name_takes earlier n bytes y fits e =
      let x = bind_ok (bytes_at total n bytes) (if_good_name (offset total bytes) earlier) y e in
      let t = bytes_takes n bytes x.0 fits x.1 in
      let g = guard_ok (is_bad_name earlier x.0.0) (refused.BadName (offset total bytes)) x.0 y x.2 in
      subst (λ (z : List ℕ × List ℕ). Takes bytes z.0 z.1 × ((length z.0 ≡ n) × (is_bad_name earlier z.0 ≡ false))) g.1 (t.0, (t.1, g.0))

  value_ok : (b : ℕ) (bytes : List ℕ) (y : Bool × List ℕ) → value_at total (b ∷ bytes) ≡ Ok y → (b ≡ bit_byte y.0) × (bytes ≡ y.1)
  value_ok b bytes y e = grind (arith, nat_tests)

  value_takes : (bytes : List ℕ) (y : Bool × List ℕ) → IsBytes bytes → value_at total bytes ≡ Ok y → Takes bytes (bit_byte y.0 ∷ []) y.1
  value_takes [] y fits e = absurd cc
  value_takes (b ∷ bytes) y fits e =
      subst (Takes (b ∷ bytes) (bit_byte y.0 ∷ [])) (value_ok b bytes y e).1 (record { parts = ap (λ (c : ℕ). c ∷ bytes) (value_ok b bytes y e).0; rest_fits = λ i. fits (suc i) })

  -- a parameter behind others with these names
  pub record IsNextParam (earlier : List (List ℕ)) (p : PackParam) : Type 0 where
    pub clean : IsClean p.name
    pub short : length p.name ≤ MOST_NAME_BYTES
    pub new : In earlier p.name → ⊥

  pub param_takes : (v : Version) (earlier : List (List ℕ)) (bytes : List ℕ) (y : PackParam × List ℕ) → IsBytes bytes → param_at total v earlier bytes ≡ Ok y → Takes bytes (param_bytes v y.0) y.1 × IsNextParam earlier y.0
  param_takes v earlier bytes y fits e =
      let a = bind_ok (name_length_at total v bytes) (name_behind total earlier) y e in
      let count = length_takes v bytes a.0 fits a.1 in
      let c = bind_ok (name_at total earlier a.0.0 a.0.1) (value_behind total) y a.2 in
      let name = name_takes earlier a.0.0 a.0.1 c.0 count.0.rest_fits c.1 in
      let f = bind_ok (value_at total c.0.1) (with_name c.0.0) y c.2 in
      let value = value_takes c.0.1 f.0 name.0.rest_fits f.1 in
      let len : length c.0.0 ≡ a.0.0 = name.1.0 in
      let short : length c.0.0 ≤ MOST_NAME_BYTES = subst (λ (n : ℕ). n ≤ MOST_NAME_BYTES) (sym len) count.1.0 in
      let good = clean_name earlier c.0.0 (subst (λ (n : ℕ). 1 ≤ n) (sym len) count.1.1) name.1.1 in
      let all : Takes bytes (spelled v w16 (length c.0.0) ++ (c.0.0 ++ bit_byte f.0.0 ∷ [])) f.0.1 =
      subst (λ (n : ℕ). Takes bytes (spelled v w16 n ++ (c.0.0 ++ bit_byte f.0.0 ∷ [])) f.0.1) (sym len)
      (Takes-then bytes (spelled v w16 a.0.0) a.0.1 (c.0.0 ++ bit_byte f.0.0 ∷ []) f.0.1 count.0 (Takes-then a.0.1 c.0.0 c.0.1 (bit_byte f.0.0 ∷ []) f.0.1 name.0 value)) in
      subst (λ (z : PackParam × List ℕ). Takes bytes (param_bytes v z.0) z.1 × IsNextParam earlier z.0) (ok_is (record { name = c.0.0; init = f.0.0 }, f.0.1) y f.2) (all, record { clean = good.0; short = short; new = good.1 })

  -- fan-ins that the test passes
  pub good_pair : (node : ℕ) (p : Pair) → is_bad_pair node p ≡ false → IsNormal node p
  good_pair node p h = record { no_constant = grind (arith, nat_tests); ordered = grind (arith, nat_tests); below = grind (arith, nat_tests) }

  -- the fan-ins as they are told, which in version 2 are those of a node where they are normal
  fan_ins_takes : (v : Version) (node : ℕ) (bytes : List ℕ) (y : Pair × List ℕ) → IsBytes bytes → fan_ins_at total v node bytes ≡ Ok y → IsNormal node y.0 → Takes bytes (node_bytes v node y.0) y.1
  fan_ins_takes One node bytes y fits e normal =
      let s = eight (ltb (length bytes) 8) (refused.Truncated (offset total bytes)) (number_at total One w32 bytes >>= higher_behind total) y e in
      let a = bind_ok (number_at total One w32 bytes) (higher_behind total) y s in
      let x = number_takes w32 4294967296 wide32 total One bytes a.0.0 a.0.1 fits a.1 in
      let b = bind_ok (number_at total One w32 a.0.1) (λ z. Ok (pair a.0.0 z.0, z.1)) y a.2 in
      let z = number_takes w32 4294967296 wide32 total One a.0.1 b.0.0 b.0.1 x.0.rest_fits b.1 in
      subst (λ (q : Pair × List ℕ). Takes bytes (node_bytes One node q.0) q.1) (ok_is (pair a.0.0 b.0.0, b.0.1) y b.2)
      (Takes-then bytes (to_be_bytes w32 a.0.0) a.0.1 (to_be_bytes w32 b.0.0) b.0.1 x.0 z.0)
    where
      eight : {A : Type 0} (short : Bool) (d : PackErr) (r : Result A PackErr) (y : A) → cond short (Err d) r ≡ Ok y → r ≡ Ok y
      eight true d r y e = absurd cc
      eight false d r y e = e
  fan_ins_takes Two node bytes y fits e normal =
      let a = bind_ok (number_at total Two w32 bytes) (lower_behind total node) y e in
      let x = number_takes w32 4294967296 wide32 total Two bytes a.0.0 a.0.1 fits a.1 in
      let b = bind_ok (number_at total Two w32 a.0.1) (λ z. Ok (pair (2 * node - a.0.0 - z.0) (2 * node - a.0.0), z.1)) y a.2 in
      let is = ok_is (pair (2 * node - a.0.0 - b.0.0) (2 * node - a.0.0), b.0.1) y b.2 in
      let low : 2 ≤ 2 * node - a.0.0 - b.0.0 = subst (λ (q : Pair × List ℕ). 2 ≤ q.0.x.0) (sym is) normal.no_constant in
      let first : 2 * node - (2 * node - a.0.0) ≡ a.0.0 = omega arith in
      let second : 2 * node - a.0.0 - (2 * node - a.0.0 - b.0.0) ≡ b.0.0 = omega arith in
      subst (λ (q : Pair × List ℕ). Takes bytes (node_bytes Two node q.0) q.1) is
      (rw (first, second) (Takes-then bytes (spelled Two w32 a.0.0) a.0.1 (spelled Two w32 b.0.0) b.0.1 x.0 (number_takes w32 4294967296 wide32 total Two a.0.1 b.0.0 b.0.1 x.0.rest_fits b.1).0))

  -- a node behind others with these pairs
  pub record IsNextNode (node : ℕ) (earlier : List Pair) (p : Pair) : Type 0 where
    pub normal : IsNormal node p
    pub new : list_any (is_pair p.x.0 p.y.0) earlier ≡ false

  pub node_takes : (v : Version) (node : ℕ) (earlier : List Pair) (bytes : List ℕ) (y : Pair × List ℕ) → IsBytes bytes → node_at total v node earlier bytes ≡ Ok y → Takes bytes (node_bytes v node y.0) y.1 × IsNextNode node earlier y.0
  node_takes v node earlier bytes y fits e =
      let x = bind_ok (fan_ins_at total v node bytes) (if_new_pair (offset total bytes) node earlier) y e in
      let g = guard_ok (is_bad_pair node x.0.0 || list_any (is_pair x.0.0.x.0 x.0.0.y.0) earlier) (refused.BadNode (offset total bytes)) x.0 y x.2 in
      let p = or_parts (is_bad_pair node x.0.0) (list_any (is_pair x.0.0.x.0 x.0.0.y.0) earlier) g.0 in
      subst (λ (z : Pair × List ℕ). Takes bytes (node_bytes v node z.0) z.1 × IsNextNode node earlier z.0) g.1
      (fan_ins_takes v node bytes x.0 fits x.1 (good_pair node x.0.0 p.0), record { normal = (good_pair node x.0.0 p.0); new = p.1 })

  pub bit_takes : (v : Version) (nodes : ℕ) (bytes : List ℕ) (y : Lit × List ℕ) → IsBytes bytes → bit_at total v nodes bytes ≡ Ok y → Takes bytes (bit_bytes v y.0) y.1 × (y.0.0 < 2 * nodes)
  bit_takes v nodes bytes y fits e =
      let x = bind_ok (number_at total v w32 bytes) (if_literal (offset total bytes) nodes) y e in
      let t = number_takes w32 4294967296 wide32 total v bytes x.0.0 x.0.1 fits x.1 in
      let g = guard_ok (leb nodes (x.0.0 / 2)) (refused.BadBit (offset total bytes)) (record { 0 = x.0.0 }, x.0.1) y x.2 in
      subst (λ (z : Lit × List ℕ). Takes bytes (bit_bytes v z.0) z.1 × (z.0.0 < 2 * nodes)) g.1 (t.0, omega (arith, leb-false nodes (x.0.0 / 2) g.0))

module _ (total : ℕ) where
  bytes_again : (text rest : List ℕ) → bytes_at total (length text) (text ++ rest) ≡ Ok (text, rest)
  bytes_again text rest = grind (arith, ltb, le-ltb, length-append, take_at, drop_at)

  pub magic_again : (rest : List ℕ) → magic_at total (magic ++ rest) ≡ Ok (magic, rest)
  magic_again rest = ap (λ (f : Field (List ℕ)). f >>= if_magic (offset total (magic ++ rest))) (bytes_again magic rest)

  pub version_again : (v : Version) (rest : List ℕ) → version_at total (to_be_bytes w16 (version_number v) ++ rest) ≡ Ok (v, rest)
  version_again v rest = grind arith

  pub count_again : (w : Width) (limit : ℕ) → IsWide w limit → (v : Version) (most : ℕ) (e : PackErr) (n : ℕ) (rest : List ℕ) → n ≤ most → n < limit → unless_over most e (number_at total v w (spelled v w n ++ rest)) ≡ Ok (n, rest)
  count_again w limit wide v most e n rest within small = unless_again most e (number_at total v w (spelled v w n ++ rest)) n rest (number_again w limit wide total v n rest small) within

  length_again : (v : Version) (n : ℕ) (rest : List ℕ) → 1 ≤ n → n ≤ MOST_NAME_BYTES → name_length_at total v (spelled v w16 n ++ rest) ≡ Ok (n, rest)
  length_again v n rest some short =
      rw (count_again w16 65536 wide16 v MOST_NAME_BYTES (refused.BadName (offset total (spelled v w16 n ++ rest))) n rest short (omega arith), ne_eqb n 0 (λ e. absurd (omega arith))) refl

  name_again : (earlier : List (List ℕ)) (name rest : List ℕ) → is_bad_name earlier name ≡ false → name_at total earlier (length name) (name ++ rest) ≡ Ok (name, rest)
  name_again earlier name rest good = rw (bytes_again name rest, good) refl

  value_again : (b : Bool) (rest : List ℕ) → value_at total (bit_byte b ∷ rest) ≡ Ok (b, rest)
  value_again b rest = search rules

  pub param_again : (v : Version) (earlier : List (List ℕ)) (p : PackParam) (rest : List ℕ) → IsNextParam total earlier p → param_at total v earlier (param_bytes v p ++ rest) ≡ Ok (p, rest)
  param_again v earlier p rest next = grind (arith, append_assoc, length_again, name_again, clean_again, value_again)

  pair_good : (node : ℕ) (p : Pair) → IsNormal node p → is_bad_pair node p ≡ false
  pair_good node p normal = grind arith

  fan_ins_again : (v : Version) (node : ℕ) (p : Pair) (rest : List ℕ) → IsNormal node p → node < 2147483648 → fan_ins_at total v node (node_bytes v node p ++ rest) ≡ Ok (p, rest)
  fan_ins_again One node p rest normal small = grind (arith, ltb, le-ltb, length-append, cond, append_assoc, number_again, wide32)
  fan_ins_again Two node p rest normal small =
      ap (λ (t : List ℕ). number_at total Two w32 t >>= lower_behind total node) (append_assoc (spelled Two w32 (2 * node - p.y.0)) _ rest)
      ∙ ap (λ (f : Field ℕ). f >>= lower_behind total node) (number_again w32 4294967296 wide32 total Two (2 * node - p.y.0) (_ ++ rest) (omega arith))
      ∙ ap (λ (f : Field ℕ). f >>= λ z. Ok (pair (2 * node - (2 * node - p.y.0) - z.0) (2 * node - (2 * node - p.y.0)), z.1)) (number_again w32 4294967296 wide32 total Two (p.y.0 - p.x.0) rest (omega arith))
      ∙ ap (λ (n : ℕ). Ok (pair (2 * node - (2 * node - p.y.0) - (p.y.0 - p.x.0)) n, rest)) (omega arith)
      ∙ ap (λ (n : ℕ). Ok (pair n p.y.0, rest)) (omega arith)

  pub node_again : (v : Version) (node : ℕ) (earlier : List Pair) (p : Pair) (rest : List ℕ) → IsNextNode total node earlier p → node < 2147483648 → node_at total v node earlier (node_bytes v node p ++ rest) ≡ Ok (p, rest)
  node_again v node earlier p rest next small = grind (arith, fan_ins_again, or_from, pair_good)

  pub bit_again : (v : Version) (nodes : ℕ) (l : Lit) (rest : List ℕ) → l.0 < 2 * nodes → nodes ≤ 2147483648 → bit_at total v nodes (bit_bytes v l ++ rest) ≡ Ok (l, rest)
  bit_again v nodes l rest below small =
      rw (number_again w32 4294967296 wide32 total v l.0 rest (omega arith), lt-leb nodes (l.0 / 2) (omega arith)) refl
