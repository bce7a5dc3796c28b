-- How long the texts are: the lengths of words, of lines, and of all lines.
use Rattle.gen_case.proofs.Common.{◌≡◌, ℕ, zero, suc, ◌+◌, ◌-◌, ◌*◌, ◌^◌, ◌<◌, ◌≤◌, Bool, true, false, eqb, List, [], ◌∷◌, ◌++◌, map, length, decimal, ap, ◌∙◌, arith, refl, codes, flat_map, range_with_len, length-decimal-le, flat_map-append, length-append, flat_map-map, digit, Bus, Data, CaseNet, Zero, Digit, Partial, Sum, Carry, pair_text, net_name, line_text, text_of, below, digit_text, first_coefficient, coefficient_of, data_of, after_blanks, rules}
use Rattle.std.proofs.Math.Nat.{mul-le-mul_left}
use Rattle.list_laws.proofs.Choice.{choose_one}
use Rattle.gen_case.specs.Netlist.{bus_names, head_lines, partial_lines, from_before, carry_in, adder_line, adder_lines, source_of, output_lines, end_lines, all_partials, all_adders, all_outputs, netlist_lines}
use Rattle.gen_case.specs.Script.{param_lines, all_params, setting, digits_text, set_line, cycle_line, round_lines, rounds}
use Rattle.gen_case.specs.Case.{IsShort}
use Rattle.gen_case.proofs.LineLemmas.{joined}

-- a net whose numbers have two digits at most
abbrev pub IsLow : CaseNet → Type 0
IsLow Zero = Unit {0}
IsLow (Digit bus place) = place < 100
IsLow (Partial i j) = (i < 100) × (j < 100)
IsLow (Sum j i) = (j < 100) × (i < 100)
IsLow (Carry j i) = (j < 100) × (i < 100)

number_short : (n : ℕ) → n < 100 → length (decimal n) ≤ 2
number_short n h = length-decimal-le 2 n (omega arith) h (omega arith)

digit_short : (bus : Bus) (place : ℕ) → place < 100 → length (net_name (Digit bus place)) ≤ 3
digit_short Data place h = let d = number_short place h in omega arith
digit_short bus place h = let d = number_short place h in omega arith

pair_short : (a b : ℕ) → a < 100 → b < 100 → length (pair_text a b) ≤ 5
pair_short a b h k = simp length-append (omega (arith, number_short a h, number_short b k))

net_short : (net : CaseNet) → IsLow net → length (net_name net) ≤ 6
net_short Zero h = omega arith
net_short (Digit bus place) h = let d = digit_short bus place h in omega arith
net_short (Partial i j) h = let d = pair_short i j h.0 h.1 in omega arith
net_short (Sum j i) h = let d = pair_short j i h.0 h.1 in omega arith
net_short (Carry j i) h = let d = pair_short j i h.0 h.1 in omega arith

-- pieces of a length at most, one for each number
pieces_short : {A : Type 0} (f : ℕ → List A) (b a k : ℕ) → ((x : ℕ) → a ≤ x → x < a + k → length (f x) ≤ b) → length (flat_map f (range_with_len a k)) ≤ b * k
pieces_short f b a zero h = omega arith
pieces_short f b a (suc k) h = grind (arith, length-append, pieces_short f b (a + 1) k (λ x low high. h x (omega arith) (omega arith)))

all_short : {A : Type 0} (f : ℕ → List A) (b m a k : ℕ) → k ≤ m → ((x : ℕ) → a ≤ x → x < a + k → length (f x) ≤ b) → length (flat_map f (range_with_len a k)) ≤ b * m
all_short f b m a k few h = omega (arith, pieces_short f b a k h, mul-le-mul_left b few)

flat_text : (f : ℕ → List (List (List ℕ))) (xs : List ℕ) → text_of (flat_map f xs) ≡ flat_map (λ x. text_of (f x)) xs
flat_text f [] = refl
flat_text f (x ∷ xs) = flat_map-append line_text (f x) (flat_map f xs) ∙ ap (λ (t : List ℕ). text_of (f x) ++ t) (flat_text f xs)

lines_short : (f : ℕ → List (List (List ℕ))) (b m a k : ℕ) → k ≤ m → ((x : ℕ) → a ≤ x → x < a + k → length (text_of (f x)) ≤ b) → length (text_of (flat_map f (range_with_len a k))) ≤ b * m
lines_short f b m a k few h = omega (arith, all_short (λ x. text_of (f x)) b m a k few h, ap length (flat_text f (range_with_len a k)))

words_short : (f : ℕ → List ℕ) (b m k : ℕ) → k ≤ m → ((x : ℕ) → x < k → length (f x) ≤ b) → length (after_blanks (map f (below k))) ≤ (b + 1) * m
words_short f b m k few h = grind (arith, all_short, flat_map-map)

line_length : (word : List ℕ) (words : List (List ℕ)) → length (line_text (word ∷ words)) ≡ length word + length (after_blanks words) + 1
line_length word words = grind (arith, length-append, codes, joined)

text_length : (xs ys : List (List (List ℕ))) → length (text_of (xs ++ ys)) ≡ length (text_of xs) + length (text_of ys)
text_length xs ys = ap length (flat_map-append line_text xs ys) ∙ length-append (text_of xs) (text_of ys)

-- the lines of the netlist
bus_short : (bus : Bus) (k : ℕ) → k ≤ 64 → length (after_blanks (bus_names bus k)) ≤ 256
bus_short bus k h = words_short (λ place. net_name (Digit bus place)) 3 64 k h (λ x low. digit_short bus x (omega arith))

head_short : (n : ℕ) → n ≤ 32 → length (text_of (head_lines n)) ≤ 1000
head_short n h = grind (arith, flat_map-append, length-append, line_length, codes, bus_short)

partial_short : (j i : ℕ) → j < 32 → i < 32 → length (text_of (partial_lines j i)) ≤ 40
partial_short j i h k = simp length-append (omega (arith, number_short j (omega arith), number_short i (omega arith)))

partials_short : (n : ℕ) → n ≤ 32 → length (text_of (all_partials n)) ≤ 40960
partials_short n h =
    lines_short (λ j. flat_map (partial_lines j) (below n)) 1280 32 0 n h
    (λ j low high. lines_short (partial_lines j) 40 32 0 n h (λ i from to. partial_short j i (omega arith) (omega arith)))

pub from_before_low : (n j i : ℕ) → n ≤ 32 → j < 32 → i < 32 → IsLow (from_before n j i)
from_before_low n j i h k l = grind arith

pub carry_in_low : (j i : ℕ) → j < 32 → i < 32 → IsLow (carry_in j i)
carry_in_low j i h k = choose_one IsLow (eqb i 0) Zero (Carry j (i - 1)) tt (omega arith, omega arith)

adder_short : (before carry : CaseNet) (j i : ℕ) → IsLow before → IsLow carry → j < 32 → i < 32 → length (line_text (adder_line before carry j i) ++ []) ≤ 80
adder_short before carry j i b c h k = grind (arith, length-append, number_short, net_short)

adders_short : (n : ℕ) → n ≤ 32 → length (text_of (all_adders n)) ≤ 81920
adders_short n h =
    lines_short (λ j. flat_map (adder_lines n j) (below n)) 2560 32 1 (n - 1) (omega arith)
    (λ j low high. lines_short (adder_lines n j) 80 32 0 n h
    (λ i from to. adder_short (from_before n j i) (carry_in j i) j i (from_before_low n j i h (omega arith) (omega arith)) (carry_in_low j i (omega arith) (omega arith)) (omega arith) (omega arith)))

pub source_low : (n t : ℕ) → n ≤ 32 → t < 64 → IsLow (source_of n t)
source_low n t h k = grind arith

output_short : (n t : ℕ) → n ≤ 32 → t < 64 → length (text_of (output_lines n t)) ≤ 40
output_short n t h k = simp length-append (omega (arith, number_short t (omega arith), net_short (source_of n t) (source_low n t h k)))

outputs_short : (n : ℕ) → n ≤ 32 → length (text_of (all_outputs n)) ≤ 2560
outputs_short n h = lines_short (output_lines n) 40 64 0 (2 * n) (omega arith) (λ t low high. output_short n t h (omega arith))

netlist_short : (n : ℕ) → n ≤ 32 → length (text_of (netlist_lines n)) ≤ 2 ^ 26
unfolding netlist_lines
netlist_short n h =
    let p = text_length (head_lines n) (all_partials n ++ (all_adders n ++ (all_outputs n ++ end_lines))) in
    let q = text_length (all_partials n) (all_adders n ++ (all_outputs n ++ end_lines)) in
    let r = text_length (all_adders n) (all_outputs n ++ end_lines) in
    omega (arith, head_short n h, partials_short n h, adders_short n h, outputs_short n h, text_length (all_outputs n) end_lines)

-- the lines of the parameter list and of the script
bit_short : (bit : Bool) → length (digit_text bit) ≤ 1
bit_short true = omega arith
bit_short false = omega arith

param_short : (value place : ℕ) → place < 32 → length (text_of (param_lines value place)) ≤ 10
param_short value place h = simp length-append (omega (arith, number_short place (omega arith), bit_short (digit value place)))

params_short : (n seed : ℕ) → n ≤ 32 → length (text_of (all_params n seed)) ≤ 2 ^ 26
params_short n seed h =
    omega (arith, lines_short (param_lines (first_coefficient n seed)) 10 32 0 n h (λ place low high. param_short (first_coefficient n seed) place (omega arith)))

setting_short : (value place : ℕ) → place < 32 → length (setting value place) ≤ 5
setting_short value place h = simp length-append (omega (arith, number_short place (omega arith), bit_short (digit value place)))

round_short : (n seed j : ℕ) → n ≤ 32 → length (text_of (round_lines n seed j)) ≤ 300
round_short n seed j h =
    let s = words_short (setting (coefficient_of n seed j)) 5 32 n h (λ place low. setting_short (coefficient_of n seed j) place (omega arith)) in
    let l = line_length (codes "set") (map (setting (coefficient_of n seed j)) (below n)) in
    let d = all_short (λ place. digit_text (digit (data_of n seed j) place)) 1 32 0 n h (λ place low high. bit_short (digit (data_of n seed j) place)) in
    let p = length-append (digits_text n (data_of n seed j) ++ codes "\n") [] in
    let e = text_length (set_line n (coefficient_of n seed j) ∷ []) (cycle_line n (data_of n seed j) ∷ []) in
    omega (arith, length-append (digits_text n (data_of n seed j)) (codes "\n"), length-append (line_text (set_line n (coefficient_of n seed j))) [])

rounds_short : (n seed : ℕ) → n ≤ 32 → length (text_of (rounds n seed 100)) ≤ 2 ^ 26
unfolding rounds
rounds_short n seed h = omega (arith, lines_short (round_lines n seed) 300 100 1 100 (omega arith) (λ j low high. round_short n seed j h))

pub case_short : (n seed : ℕ) (netlist params script : List ℕ) → n ≤ 32
    → netlist ≡ text_of (netlist_lines n) → params ≡ text_of (all_params n seed) → script ≡ text_of (rounds n seed 100)
    → IsShort (record { netlist = netlist; params = params; script = script })
case_short n seed netlist params script h a b c = search (rules, netlist_short, params_short, rounds_short)
