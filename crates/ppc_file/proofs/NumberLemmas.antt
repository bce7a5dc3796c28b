-- A number that is read is the number that was spelled, and what was spelled is read again; numbers by bytes of seven bits are small; and texts that are added one after another.
use Rattle.ppc_file.proofs.Common.{◌≡◌, ℕ, zero, suc, ◌+◌, ◌-◌, ◌*◌, ◌^◌, ◌<◌, ◌≤◌, arith, pow-le-pow_right, ◌/◌, ◌%◌, Bool, false, cond, ltb, eqb, List, ◌∷◌, ◌++◌, length, get_or, take, drop, Result, Ok, Err, refl, sym, ap, subst, ◌∙◌, append_assoc, inl, inr, Width, w16, w32, byte_len, from_be_bytes, to_be_bytes, cases_lt, ltb-false, le-ltb, lt-ltb, PackErr, Truncated, BadNumber, Version, One, Two, Field, ◌>>=◌, offset, sevens, spelled, sevens_at, behind_byte, unless_over, number_at, nat_tests, take-append-drop, length-take, get_or-drop, get_or-take, get_or_past, rules, replicate, Some, slice_get, length-replicate, drop_get, Aig, first_and, Parameter, Lit, Pair, PackValue, PackParam, added_twice, node_bytes, nodes_bytes, head_bytes, params_part, nodes_part, bits_part, bytes_of, Added}
use Rattle.std.proofs.lemmas.Nat.{be_bytes_2, be_bytes_4, from_be_bytes-to_be_bytes_2, from_be_bytes-to_be_bytes_4}
use Rattle.tl_io.specs.Sink.{SinkSeen}
use Rattle.tl_piece.specs.Added.{IsAdded}
use Rattle.tl_piece.specs.declared.writer.Writer.{Writer}

pub one_at_least : (n b : ℕ) → 1 ≤ n → b < 128 → b < 128 ^ n
one_at_least n b some small = let l : 128 ^ 1 ≤ 128 ^ n = pow-le-pow_right {n = 128} (omega arith) {i = 1} {j = n} some in omega arith

pub below_power : (n high b : ℕ) → 1 ≤ n → high < 128 ^ (n - 1) → b < 128 → b + 128 * high < 128 ^ n
below_power zero high b some h small = absurd (omega arith)
below_power (suc n) high b some h small = grind arith

pub fits_word : (n high b : ℕ) → 1 ≤ n → n ≤ 5 → high < 128 ^ (n - 1) → b < 128 → b + 128 * high < 34359738368
fits_word n high b some few h small = omega (arith, pow-le-pow_right {n = 128} (omega arith) {i = n - 1} {j = 4} (omega arith))

-- numbers below 256
abbrev pub IsBytes : List ℕ → Type 0
IsBytes bytes = (i : ℕ) → get_or bytes i 0 < 256

IsBytes-drop : (n : ℕ) (bytes : List ℕ) → IsBytes bytes → IsBytes (drop n bytes)
IsBytes-drop n bytes h i = rw get_or-drop (h (n + i))

IsBytes-take : (n : ℕ) (bytes : List ℕ) → IsBytes bytes → IsBytes (take n bytes)
IsBytes-take n bytes h i = search (rules, cases_lt, get_or-take, get_or_past, length-take)

-- the value of a step that wasn't refused
pub bind_ok : {A B : Type 0} (r : Result A PackErr) (f : A → Result B PackErr) (y : B) → (r >>= f) ≡ Ok y → (x : A) × (r ≡ Ok x) × (f x ≡ Ok y)
bind_ok h f y e = search rules

abbrev done : {A : Type 0} → A → Result A PackErr
done x = Ok x

pub ok_is : {A : Type 0} (x y : A) → done x ≡ done y → x ≡ y
ok_is x y e = cc

pub guard_ok : {A : Type 0} (b : Bool) (d : PackErr) (x y : A) → cond b (Err d) (Ok x) ≡ Ok y → (b ≡ false) × (x ≡ y)
guard_ok h d x y e = search rules

-- what a reader took from the front
pub record Takes (bytes text rest : List ℕ) : Type 0 where
  pub parts : bytes ≡ text ++ rest
  pub rest_fits : IsBytes rest

pub Takes-then : (a x b y c : List ℕ) → Takes a x b → Takes b y c → Takes a (x ++ y) c
Takes-then a x b y c p q = record { parts = p.parts ∙ ap (λ (t : List ℕ). x ++ t) q.parts ∙ sym (append_assoc x y c); rest_fits = q.rest_fits }

pub front_taken : (n : ℕ) (bytes : List ℕ) → IsBytes bytes → Takes bytes (take n bytes) (drop n bytes)
front_taken n bytes fits = record { parts = sym (take-append-drop n bytes); rest_fits = IsBytes-drop n bytes fits }

pub sevens_again : (at left n : ℕ) (rest : List ℕ) → n < 128 ^ suc left → sevens_at at (suc left) (sevens (suc left) n ++ rest) ≡ Ok (n, rest)
sevens_again at zero n rest h = grind arith
sevens_again at (suc left) n rest h = elim (cases_lt n 128) [
  | inl small ↦ rw (lt-ltb n 128 small) (rw (lt-ltb n 128 small) refl)
  | inr large ↦ (
      let some : eqb (n / 128) 0 ≡ false = (let q : 1 ≤ n / 128 = omega arith in grind arith) in
      let value : 128 + n % 128 - 128 + 128 * (n / 128) ≡ n = omega arith in
      rw (le-ltb n 128 large) (rw (le-ltb (128 + n % 128) 128 (omega arith), sevens_again at left (n / 128) rest (omega arith), some, value) refl)
      )
]

pub not_zero : (n : ℕ) → eqb n 0 ≡ false → 1 ≤ n
not_zero n h = grind (arith, nat_tests)

behind_ok : (at low : ℕ) (field : Field ℕ) (y : ℕ × List ℕ) → behind_byte at low field ≡ Ok y → (x : ℕ × List ℕ) × (field ≡ Ok x) × (1 ≤ x.0) × (y ≡ (low + 128 * x.0, x.1))
behind_ok at low field y h = grind arith

rest_bytes : (b : ℕ) (bytes : List ℕ) → IsBytes (b ∷ bytes) → IsBytes bytes
rest_bytes b bytes h i = h (suc i)

one_more : (left b n high : ℕ) (bytes rest : List ℕ) → 128 ≤ b → b < 256 → 1 ≤ high → n ≡ b - 128 + 128 * high → Takes bytes (sevens left high) rest → Takes (b ∷ bytes) (sevens (suc left) n) rest
one_more left b n high bytes rest large byte some number inner = grind arith

pub sevens_takes : (at left : ℕ) (bytes : List ℕ) (n : ℕ) (rest : List ℕ) → IsBytes bytes → sevens_at at left bytes ≡ Ok (n, rest) → Takes bytes (sevens left n) rest
sevens_takes at (suc left) (b ∷ bytes) n rest fits e = elim (cases_lt b 128) [
  | inl small ↦ (
      let h : Ok (b, bytes) ≡ Ok (n, rest) = rw (lt-ltb b 128 small) at e in
      let same : (b, bytes) ≡ (n, rest) = ok_is (b, bytes) (n, rest) h in
      let number : b ≡ n = ap (λ (p : ℕ × List ℕ). p.0) same in
      let behind : bytes ≡ rest = ap (λ (p : ℕ × List ℕ). p.1) same in
      record {
        parts = rw (lt-ltb n 128 (omega arith)) (rw (number, behind) refl);
        rest_fits = subst IsBytes behind (rest_bytes b bytes fits);
      }
      )
  | inr large ↦ (
      let h : behind_byte at (b - 128) (sevens_at at left bytes) ≡ Ok (n, rest) = rw (le-ltb b 128 large) at e in
      let x = behind_ok at (b - 128) (sevens_at at left bytes) (n, rest) h in
      let number : n ≡ b - 128 + 128 * x.0.0 = ap (λ (p : ℕ × List ℕ). p.0) x.3 in
      let behind : rest ≡ x.0.1 = ap (λ (p : ℕ × List ℕ). p.1) x.3 in
      subst (λ (r : List ℕ). Takes (b ∷ bytes) (sevens (suc left) n) r) (sym behind)
      (one_more left b n x.0.0 bytes x.0.1 large (fits 0) x.2 number (sevens_takes at left bytes x.0.0 x.0.1 (rest_bytes b bytes fits) x.1))
      )
]
sevens_takes at left bytes n rest fits e = absurd cc

pub record IsWide (w : Width) (limit : ℕ) : Type 0 where
  pub len : (n : ℕ) → length (to_be_bytes w n) ≡ byte_len w
  pub back : (bytes : List ℕ) → length bytes ≡ byte_len w → IsBytes bytes → to_be_bytes w (from_be_bytes w bytes) ≡ bytes
  pub again : (n : ℕ) → n < limit → from_be_bytes w (to_be_bytes w n) ≡ n
  pub below : (bytes : List ℕ) → IsBytes bytes → from_be_bytes w bytes < limit
  pub word : limit ≤ 4294967296

pub wide16 : IsWide w16 65536
wide16 = search (rules, be_bytes_2, from_be_bytes-to_be_bytes_2)

pub wide32 : IsWide w32 4294967296
wide32 = search (rules, be_bytes_4, from_be_bytes-to_be_bytes_4)

pub unless_ok : (most : ℕ) (e : PackErr) (field : Field ℕ) (y : ℕ × List ℕ) → unless_over most e field ≡ Ok y → (field ≡ Ok y) × (y.0 ≤ most)
unless_ok most e field y h = grind arith

pub unless_again : (most : ℕ) (e : PackErr) (field : Field ℕ) (n : ℕ) (rest : List ℕ) → field ≡ Ok (n, rest) → n ≤ most → unless_over most e field ≡ Ok (n, rest)
unless_again most e field n rest is within = rw (is, le-ltb most n within) refl

module _ (w : Width) (limit : ℕ) (wide : IsWide w limit) (total : ℕ) where
  pub number_takes : (v : Version) (bytes : List ℕ) (n : ℕ) (rest : List ℕ) → IsBytes bytes → number_at total v w bytes ≡ Ok (n, rest) → Takes bytes (spelled v w n) rest × (n < 4294967296)
  number_takes One bytes n rest fits e =
      let g = guard_ok (ltb (length bytes) (byte_len w)) (Truncated (offset total bytes)) (from_be_bytes w (take (byte_len w) bytes), drop (byte_len w) bytes) (n, rest) e in
      let long : byte_len w ≤ length bytes = ltb-false _ _ g.0 in
      let n-is : from_be_bytes w (take (byte_len w) bytes) ≡ n = ap (λ (p : ℕ × List ℕ). p.0) g.1 in
      let rest-is : drop (byte_len w) bytes ≡ rest = ap (λ (p : ℕ × List ℕ). p.1) g.1 in
      let front : to_be_bytes w n ≡ take (byte_len w) bytes = rw (← n-is) (wide.back (take (byte_len w) bytes) (omega (arith, length-take (byte_len w) bytes)) (IsBytes-take (byte_len w) bytes fits)) in
      let below : n < limit = rw (← n-is) (wide.below (take (byte_len w) bytes) (IsBytes-take (byte_len w) bytes fits)) in
      (record { parts = rw (front, ← rest-is) (sym (take-append-drop (byte_len w) bytes)); rest_fits = rw (← rest-is) (IsBytes-drop (byte_len w) bytes fits) }, omega (arith, wide.word))
  number_takes Two bytes n rest fits e =
      let u = unless_ok 4294967295 (BadNumber (offset total bytes)) (sevens_at (offset total bytes) 5 bytes) (n, rest) e in
      (sevens_takes (offset total bytes) 5 bytes n rest fits u.0, omega arith)

  pub number_again : (v : Version) (n : ℕ) (rest : List ℕ) → n < limit → number_at total v w (spelled v w n ++ rest) ≡ Ok (n, rest)
  number_again One n rest lt = grind arith
  number_again Two n rest lt =
      unless_again 4294967295 (BadNumber (offset total (sevens 5 n ++ rest))) (sevens_at (offset total (sevens 5 n ++ rest)) 5 (sevens 5 n ++ rest)) n rest
      (sevens_again (offset total (sevens 5 n ++ rest)) 4 n rest (omega (arith, lt, wide.word))) (omega (arith, lt, wide.word))

pub added_more : {O : Type 0} {seen : O → SinkSeen} {old mid new : Writer O} {whole left : List ℕ} → Added seen old whole mid left → (part behind : List ℕ) → left ≡ part ++ behind → IsAdded seen mid part new
    → Added seen old whole new behind
added_more before part behind split added = record {
  front = before.front ++ part;
  added = added_twice before.added added;
  rest = append_assoc before.front part behind ∙ ap (λ (t : List ℕ). before.front ++ t) (sym split) ∙ before.rest;
}

-- what is left begins with the node at a place
pub next_node : (v : Version) (first i : ℕ) (ps : List Pair) (p : Pair) → slice_get ps i ≡ Some p → nodes_bytes v (first + i) (drop i ps) ≡ node_bytes v (first + i) p ++ nodes_bytes v (first + (i + 1)) (drop (i + 1) ps)
next_node v first i ps p there = grind (arith, drop_get)

pub pack_parts : (v : Version) (pack : PackValue) (params : List PackParam) (g : Aig) (bits : List Lit) → params ≡ pack.params → g ≡ pack.graph → bits ≡ pack.bits → pack.graph.kinds ≡ replicate (length pack.params) Parameter
    → bytes_of v pack ≡ head_bytes v ++ (params_part v (length params) params ++ (nodes_part v (first_and g) (length g.pairs) g.pairs ++ bits_part v (length bits) bits))
pack_parts v pack params g bits p-is g-is b-is kinds = rw (p-is, g-is, b-is, kinds, length-replicate (length pack.params) Parameter) refl
