-- Words of ordinary bytes are clean; numbers are such words, and are read back as they were written.
use Rattle.tl_text.proofs.Common.{◌≡◌, ◌≢◌, ℕ, zero, suc, ◌+◌, ◌-◌, ◌*◌, ◌/◌, ◌%◌, ◌^◌, ◌<◌, ◌≤◌, Bool, true, false, ◌&&◌, ◌||◌, not, eqb, leb, ltb, List, [], ◌∷◌, ◌++◌, length, get_or, Some, None, decimal, refl, sym, ap, ◌∙◌, subst, inl, inr, arith, length-append, replicate, list_all, list_any, In, In-append, In-get_or, IsClean, is_digit, is_decimal, number_from, decimal_of, is_bad, is_blank}
use Rattle.std.proofs.lemmas.Bool.{and_from, or_from, or_left, or_right, not_from_false, le-leb, le-ltb, lt-ltb, eq-eqb, ne_eqb, cond-true, cases_eq, or_parts}
use Rattle.std.proofs.lemmas.Fmt.{decimal_by_steps}

-- a byte that may not stand anywhere in a word: a blank, one that no line has, `#` and `\`
abbrev pub is_special : ℕ → Bool
is_special b = is_blank b || (is_bad b || (eqb b 35 || eqb b 92))

abbrev pub AreOrdinary : List ℕ → Type 0
AreOrdinary w = (b : ℕ) → In w b → is_special b ≡ false

pub ordinary_clean : (w : List ℕ) → 0 < length w → AreOrdinary w → IsClean w
ordinary_clean w some h = record {
  bytes = record {
    some = some;
    no_blank = λ b i. (or_parts (is_blank b) (is_bad b || (eqb b 35 || eqb b 92)) (h b i)).0;
    no_bad = λ b i. (or_parts (is_bad b) (eqb b 35 || eqb b 92) (or_parts (is_blank b) (is_bad b || (eqb b 35 || eqb b 92)) (h b i)).1).0;
    no_comment = λ b i e. let f : is_special b ≡ false = h b i in let t : is_special b ≡ true = ap is_special e in let wrong : ⊥ = cc in wrong;
  };
  no_slash = ne_eqb (get_or w (length w - 1) 0) 92 (λ e. let f : is_special (get_or w (length w - 1) 0) ≡ false = h _ (In-get_or w (length w - 1) 0 (omega (arith, some))) in let t : is_special (get_or w (length w - 1) 0) ≡ true = ap is_special e in let wrong : ⊥ = cc in wrong);
}

tested_ordinary : (w : List ℕ) → list_any is_special w ≡ false → AreOrdinary w
tested_ordinary [] h b i = absurd i
tested_ordinary (c ∷ w) h b (inl e) = ap is_special e ∙ (or_parts (is_special c) (list_any is_special w) h).0
tested_ordinary (c ∷ w) h b (inr i) = tested_ordinary w (or_parts (is_special c) (list_any is_special w) h).1 b i

-- a word that is known, by the test of its bytes
pub word_clean : (w : List ℕ) → 0 < length w → list_any is_special w ≡ false → IsClean w
word_clean w some h = ordinary_clean w some (tested_ordinary w h)

-- words behind one another
abbrev pub AllClean : List (List ℕ) → Type 0
AllClean ws = (w : List ℕ) → In ws w → IsClean w

pub one_clean : (x : List ℕ) → IsClean x → AllClean (x ∷ [])
one_clean x c y (inl e) = subst IsClean (sym e) c
one_clean x c y (inr i) = absurd i

pub more_clean : (x : List ℕ) (xs : List (List ℕ)) → IsClean x → AllClean xs → AllClean (x ∷ xs)
more_clean x xs c d y (inl e) = subst IsClean (sym e) c
more_clean x xs c d y (inr i) = d y i

-- a letter behind `\`, or a digit
pub byte_ordinary : (b : ℕ) → 48 ≤ b → b < 123 → b ≢ 92 → is_special b ≡ false
byte_ordinary b low high other =
    or_from (is_blank b) (is_bad b || (eqb b 35 || eqb b 92)) (or_from (eqb b 32) (eqb b 9) (ne_eqb b 32 (λ e. omega (arith, e, low))) (ne_eqb b 9 (λ e. omega (arith, e, low))))
    (or_from (is_bad b) (eqb b 35 || eqb b 92)
    (or_from (ltb b 32 && not (eqb b 9)) (eqb b 127) (ap (λ (t : Bool). t && not (eqb b 9)) (le-ltb b 32 (omega (arith, low)))) (ne_eqb b 127 (λ e. omega (arith, e, high))))
    (or_from (eqb b 35) (eqb b 92) (ne_eqb b 35 (λ e. omega (arith, e, low))) (ne_eqb b 92 other)))

-- what a number is written as
record IsNumeral (n : ℕ) (ds : List ℕ) : Type 0 where
  digits : (b : ℕ) → In ds b → (48 ≤ b) × (b ≤ 57)
  some : 0 < length ds
  first : 0 < n → get_or ds 0 0 ≢ 48
  one : n ≡ 0 → length ds ≡ 1
  value : number_from 0 ds ≡ n

pub number_from-push : (ds : List ℕ) (m d : ℕ) → number_from m (ds ++ d ∷ []) ≡ 10 * number_from m ds + (d - 48)
number_from-push [] m d = refl
number_from-push (b ∷ bs) m d = number_from-push bs (10 * m + (b - 48)) d

one_digit : (n : ℕ) → n < 10 → IsNumeral n ((48 + n) ∷ [])
one_digit n l = record {
  digits = λ b i. elim i [ inl e ↦ (let q : b ≡ 48 + n = e in (omega arith, omega arith)) | inr j ↦ absurd j ];
  some = omega arith;
  first = λ p e. let q : 48 + n ≡ 48 = e in omega arith;
  one = λ z. refl;
  value = (let q : 10 * 0 + (48 + n - 48) ≡ n = omega arith in q);
}

first_of : (ds : List ℕ) (d : ℕ) → 0 < length ds → get_or (ds ++ d ∷ []) 0 0 ≡ get_or ds 0 0
first_of [] d l = absurd (omega arith)
first_of (b ∷ bs) d l = refl

more_digits : (n : ℕ) (ds : List ℕ) → 10 ≤ n → IsNumeral (n / 10) ds → IsNumeral n (ds ++ ((48 + n % 10) ∷ []))
more_digits n ds l k = record {
  digits = λ b i. elim (In-append ds ((48 + n % 10) ∷ []) b i) [
    | inl j ↦ k.digits b j
    | inr j ↦ elim j [ inl e ↦ (let q : b ≡ 48 + n % 10 = e in (omega arith, omega arith)) | inr x ↦ absurd x ]
  ];
  some = omega (arith, length-append ds ((48 + n % 10) ∷ []));
  first = λ p e. k.first (omega arith) (sym (first_of ds (48 + n % 10) k.some) ∙ e);
  one = λ z. absurd (omega arith);
  value = number_from-push ds 0 (48 + n % 10) ∙ (let q : 10 * number_from 0 ds + (48 + n % 10 - 48) ≡ n = omega (arith, k.value) in q);
}

numeral : (n : ℕ) → n < 2 ^ 64 → IsNumeral n (decimal n)
numeral n l = decimal_by_steps IsNumeral one_digit more_digits n l

all_digits : (ds : List ℕ) → ((b : ℕ) → In ds b → (48 ≤ b) × (b ≤ 57)) → list_all is_digit ds ≡ true
all_digits [] h = refl
all_digits (b ∷ bs) h =
    let r = h b (inl refl) in
    and_from (is_digit b) (list_all is_digit bs) (and_from (leb 48 b) (leb b 57) (le-leb 48 b r.0) (le-leb b 57 r.1)) (all_digits bs (λ c i. h c (inr i)))

numeral_form : (n : ℕ) (ds : List ℕ) → IsNumeral n ds → is_decimal ds ≡ true
numeral_form n [] k = absurd (let s : 0 < length {A = ℕ} [] = k.some in omega (arith, s))
numeral_form n (b ∷ bs) k =
    and_from (list_all is_digit (b ∷ bs)) (not (eqb b 48) || eqb (length bs) 0) (all_digits (b ∷ bs) k.digits) (elim (cases_eq n 0) [
      | inl z ↦ or_right (not (eqb b 48)) (eqb (length bs) 0) (eq-eqb (length bs) 0 (let e : length (b ∷ bs) ≡ 1 = k.one z in omega arith))
      | inr ne ↦ or_left (not (eqb b 48)) (eqb (length bs) 0) (not_from_false (eqb b 48) (ne_eqb b 48 (k.first (omega (arith, ne)))))
    ])

-- a number as it is written has the form of a number, this value, and is a word
pub decimal_form : (n : ℕ) → n < 2 ^ 64 → is_decimal (decimal n) ≡ true
decimal_form n l = numeral_form n (decimal n) (numeral n l)

pub decimal_value : (n : ℕ) → n < 2 ^ 64 → number_from 0 (decimal n) ≡ n
decimal_value n l = (numeral n l).value

pub decimal_back : (n : ℕ) → n < 2 ^ 64 → decimal_of (decimal n) ≡ Some n
decimal_back n l =
    let v : number_from 0 (decimal n) ≡ n = decimal_value n l in
    cond-true (is_decimal (decimal n) && ltb (number_from 0 (decimal n)) 18446744073709551616) (Some (number_from 0 (decimal n))) None
    (and_from (is_decimal (decimal n)) (ltb (number_from 0 (decimal n)) 18446744073709551616) (decimal_form n l) (lt-ltb (number_from 0 (decimal n)) 18446744073709551616 (omega arith)))
    ∙ ap (λ x. Some x) v

pub decimal_ordinary : (n : ℕ) → n < 2 ^ 64 → AreOrdinary (decimal n)
decimal_ordinary n l b i =
    let r = (numeral n l).digits b i in let h : b ≤ 57 = r.1 in
    byte_ordinary b r.0 (omega arith) (λ e. let q : b ≡ 92 = e in omega arith)

pub decimal_clean : (n : ℕ) → n < 2 ^ 64 → IsClean (decimal n)
decimal_clean n l = ordinary_clean (decimal n) (numeral n l).some (decimal_ordinary n l)

-- marks (`_`), a letter and others behind one another
pub marked_ordinary : (count letter : ℕ) (rest : List ℕ) → is_special letter ≡ false → AreOrdinary rest → AreOrdinary (replicate count 95 ++ letter ∷ rest)
marked_ordinary zero letter rest h k b (inl e) = ap is_special e ∙ h
marked_ordinary zero letter rest h k b (inr i) = k b i
marked_ordinary (suc count) letter rest h k b (inl e) = ap is_special e
marked_ordinary (suc count) letter rest h k b (inr i) = marked_ordinary count letter rest h k b i
