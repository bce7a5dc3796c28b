-- The words of a netlist's lines: each line has one, and each has a byte and only bytes from `-` (45) to `z` (122), of which none is a `\` (92).
use Rattle.gen_case.proofs.Common.{◌≡◌, ℕ, zero, suc, ◌+◌, ◌-◌, ◌*◌, ◌%◌, ◌<◌, ◌≤◌, Bool, true, false, ◌&&◌, not, leb, eqb, List, [], ◌∷◌, ◌++◌, map, decimal, codes, refl, ◌∙◌, arith, flat_map, list_all, range_with_len, decimal_by_steps, list_all-append, Bus, Data, Coefficient, Product, CaseNet, Zero, Digit, Partial, Sum, Carry, pair_text, net_name}
use Rattle.std.proofs.lemmas.Bool.{and_from}
use Rattle.gen_case.specs.Netlist.{head_lines, partial_lines, adder_line, source_of, output_lines, all_partials, all_adders, all_outputs, netlist_lines}
use Rattle.gen_case.proofs.SizeLemmas.{IsLow, from_before_low, carry_in_low, source_low}

abbrev pub is_plain : ℕ → Bool
is_plain b = (leb 45 b && leb b 122) && not (eqb b 92)

abbrev pub is_plain_word : List ℕ → Bool
is_plain_word [] = false
is_plain_word (b ∷ bs) = list_all is_plain (b ∷ bs)

abbrev pub is_plain_line : List (List ℕ) → Bool
is_plain_line [] = false
is_plain_line (w ∷ ws) = list_all is_plain_word (w ∷ ws)

bytes_plain : (w : List ℕ) → is_plain_word w ≡ true → list_all is_plain w ≡ true
bytes_plain [] h = refl
bytes_plain (b ∷ bs) h = h

-- lists written out, and joined ones
abbrev Each : {A : Type 0} → (A → Bool) → List A → Type 0
Each test [] = Unit {0}
Each test (x ∷ xs) = (test x ≡ true) × Each test xs

each_all : {A : Type 0} (test : A → Bool) (xs : List A) → Each test xs → list_all test xs ≡ true
each_all test [] h = refl
each_all test (x ∷ xs) h = and_from (test x) (list_all test xs) h.0 (each_all test xs h.1)

joined_all : {A : Type 0} (test : A → Bool) (xs ys : List A) → list_all test xs ≡ true → list_all test ys ≡ true → list_all test (xs ++ ys) ≡ true
joined_all test xs ys a b = list_all-append test xs ys ∙ and_from (list_all test xs) (list_all test ys) a b

pieces_all : {A : Type 0} (test : A → Bool) (f : ℕ → List A) (a k : ℕ) → ((x : ℕ) → a ≤ x → x < a + k → list_all test (f x) ≡ true) → list_all test (flat_map f (range_with_len a k)) ≡ true
pieces_all test f a zero h = refl
pieces_all test f a (suc k) h = grind (arith, joined_all, pieces_all test f (a + 1) k (λ x low high. h x (omega arith) (omega arith)))

-- names
digit_plain : (d : ℕ) → d < 10 → is_plain (48 + d) ≡ true
digit_plain d h = grind arith

number_plain : (n : ℕ) → n < 100 → list_all is_plain (decimal n) ≡ true
number_plain n h =
    decimal_by_steps (λ (m : ℕ) (ds : List ℕ). list_all is_plain ds ≡ true) (λ m l. and_from (is_plain (48 + m)) true (digit_plain m l) refl)
    (λ m ds l p. joined_all is_plain ds ((48 + m % 10) ∷ []) p (and_from (is_plain (48 + m % 10)) true (digit_plain (m % 10) (omega arith)) refl)) n (omega arith)

pair_plain : (a b : ℕ) → a < 100 → b < 100 → list_all is_plain (pair_text a b) ≡ true
pair_plain a b h k = joined_all is_plain (decimal a) (codes "_" ++ decimal b) (number_plain a h) (number_plain b k)

net_plain : (net : CaseNet) → IsLow net → is_plain_word (net_name net) ≡ true
net_plain Zero h = refl
net_plain (Digit Data place) h = number_plain place h
net_plain (Digit Coefficient place) h = number_plain place h
net_plain (Digit Product place) h = number_plain place h
net_plain (Partial i j) h = pair_plain i j h.0 h.1
net_plain (Sum j i) h = pair_plain j i h.0 h.1
net_plain (Carry j i) h = pair_plain j i h.0 h.1

bytes_of : (net : CaseNet) → IsLow net → list_all is_plain (net_name net) ≡ true
bytes_of net h = bytes_plain (net_name net) (net_plain net h)

bus_plain : (bus : Bus) (a k : ℕ) → a + k ≤ 64 → list_all is_plain_word (map (λ place. net_name (Digit bus place)) (range_with_len a k)) ≡ true
bus_plain bus a zero h = refl
bus_plain bus a (suc k) h =
    and_from (is_plain_word (net_name (Digit bus a))) (list_all is_plain_word (map (λ place. net_name (Digit bus place)) (range_with_len (a + 1) k)))
    (net_plain (Digit bus a) (omega arith)) (bus_plain bus (a + 1) k (omega arith))

-- lines
head_plain : (n : ℕ) → n ≤ 32 → list_all is_plain_line (head_lines n) ≡ true
head_plain n h = grind (arith, joined_all, is_plain_word, bus_plain, each_all, is_plain_line)

partial_plain : (j i : ℕ) → j < 32 → i < 32 → list_all is_plain_line (partial_lines j i) ≡ true
partial_plain j i h k =
    let names = each_all is_plain_word (net_name (Digit Data i) ∷ net_name (Digit Coefficient j) ∷ net_name (Partial i j) ∷ [])
    (net_plain (Digit Data i) (omega arith), (net_plain (Digit Coefficient j) (omega arith), (net_plain (Partial i j) (omega arith, omega arith), tt))) in
    each_all is_plain_line (partial_lines j i) (names, (refl, tt))

adder_plain : (before carry : CaseNet) (j i : ℕ) → IsLow before → IsLow carry → j < 32 → i < 32 → list_all is_plain_line (adder_line before carry j i ∷ []) ≡ true
adder_plain before carry j i b c h k =
    let sum = bytes_of (Sum j i) (omega arith, omega arith) in
    let carried = bytes_of (Carry j i) (omega arith, omega arith) in
    let words = each_all is_plain_word (adder_line before carry j i) (refl, (refl, (bytes_of before b, (bytes_of (Partial i j) (omega arith, omega arith), (bytes_of carry c, (sum, (carried, tt))))))) in
    each_all is_plain_line (adder_line before carry j i ∷ []) (words, tt)

output_plain : (n t : ℕ) → n ≤ 32 → t < 64 → list_all is_plain_line (output_lines n t) ≡ true
output_plain n t h k =
    let names = each_all is_plain_word (net_name (source_of n t) ∷ net_name (Digit Product t) ∷ [])
    (net_plain (source_of n t) (source_low n t h k), (net_plain (Digit Product t) (omega arith), tt)) in
    each_all is_plain_line (output_lines n t) (names, (refl, tt))

partials_plain : (n : ℕ) → n ≤ 32 → list_all is_plain_line (all_partials n) ≡ true
partials_plain n h = grind (arith, pieces_all, is_plain_line, partial_plain)

adders_plain : (n : ℕ) → n ≤ 32 → list_all is_plain_line (all_adders n) ≡ true
adders_plain n h = grind (arith, pieces_all, is_plain_line, adder_plain, from_before_low, carry_in_low)

outputs_plain : (n : ℕ) → n ≤ 32 → list_all is_plain_line (all_outputs n) ≡ true
outputs_plain n h = pieces_all is_plain_line (output_lines n) 0 (2 * n) (λ t low high. output_plain n t h (omega arith))

pub netlist_plain : (n : ℕ) → n ≤ 32 → list_all is_plain_line (netlist_lines n) ≡ true
unfolding netlist_lines
netlist_plain n h = grind (arith, joined_all, is_plain_line, head_plain, partials_plain, adders_plain, outputs_plain)
