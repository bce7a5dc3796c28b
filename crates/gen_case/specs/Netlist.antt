-- The netlist of a multiplier of n digits: the data x times the coefficient c is the product y.
--
-- Row j has the partial products of the digit j of the coefficient with each digit of the data. The rows from 1 on are added
-- to those before them, each by n full adders: the sum bit at place i of row j stands at place i + j of the product, and its
-- carry bit one place higher.
use Rattle.std.specs.Prelude.{ℕ, List, ◌++◌, codes, decimal, ◌+◌, ◌-◌, ◌*◌, if◌then◌else◌, ◌==◌, nat_lt, [], ◌∷◌, map}
use Rattle.gen_case.specs.declared.net.Bus.{Bus}
use Rattle.gen_case.specs.declared.net.Bus.TheVariants.{Data, Coefficient, Product}
use Rattle.gen_case.specs.declared.net.CaseNet.{CaseNet}
use Rattle.gen_case.specs.declared.net.CaseNet.TheVariants.{Zero, Digit, Partial, Sum, Carry}
use Rattle.std.specs.List.{flat_map, range_with_len}
use Rattle.gen_case.specs.Lines.{below}

-- the letter before a number that has its place in the name
abbrev pub bus_letter : Bus → List ℕ
bus_letter Data = codes "x"
bus_letter Coefficient = codes "c"
bus_letter Product = codes "y"

-- two numbers with `_` between them
abbrev pub pair_text : ℕ → ℕ → List ℕ
pair_text a b = decimal a ++ (codes "_" ++ decimal b)

abbrev pub net_name : CaseNet → List ℕ
net_name Zero = codes "zero"
net_name (Digit bus place) = bus_letter bus ++ decimal place
net_name (Partial i j) = codes "p" ++ pair_text i j
net_name (Sum j i) = codes "s" ++ pair_text j i
net_name (Carry j i) = codes "k" ++ pair_text j i

-- the names of the first digits of a number
abbrev pub bus_names : Bus → ℕ → List (List ℕ)
bus_names bus n = map (λ place. net_name (Digit bus place)) (below n)

-- the data and the coefficient come in, and the product goes out
abbrev pub inputs_line : ℕ → List (List ℕ)
inputs_line n = codes ".inputs" ∷ (bus_names Data n ++ bus_names Coefficient n)

abbrev pub outputs_line : ℕ → List (List ℕ)
outputs_line n = codes ".outputs" ∷ bus_names Product (2 * n)

abbrev pub head_lines : ℕ → List (List (List ℕ))
head_lines n =
    (codes ".model" ∷ codes "mul" ∷ [])
    ∷ inputs_line n
    ∷ outputs_line n
    ∷ (codes ".names" ∷ net_name Zero ∷ [])
    ∷ []

-- the AND of the digit i of the data and the digit j of the coefficient
abbrev pub partial_lines : ℕ → ℕ → List (List (List ℕ))
partial_lines j i =
    (codes ".names" ∷ net_name (Digit Data i) ∷ net_name (Digit Coefficient j) ∷ net_name (Partial i j) ∷ [])
    ∷ (codes "11" ∷ codes "1" ∷ [])
    ∷ []

-- What row j finds at its place i in the rows before it: the sum bit one place higher of the row before, and at the last
-- place that row's last carry bit. Before row 1 stands row 0, which has partial products alone and no carry.
abbrev pub from_before : ℕ → ℕ → ℕ → CaseNet
from_before n j i =
    if j == 1 then (if i == n - 1 then Zero else Partial (i + 1) 0)
    else (if i == n - 1 then Carry (j - 1) (n - 1) else Sum (j - 1) (i + 1))

-- the carry bit from one place lower in the row
abbrev pub carry_in : ℕ → ℕ → CaseNet
carry_in j i = if i == 0 then Zero else Carry j (i - 1)

-- `formal=actual`
abbrev pub link : List ℕ → CaseNet → List ℕ
link formal net = formal ++ (codes "=" ++ net_name net)

-- the full adder of row j at place i, which adds its partial product to these two nets
abbrev pub adder_line : CaseNet → CaseNet → ℕ → ℕ → List (List ℕ)
adder_line before carry j i =
    codes ".subckt" ∷ codes "fa" ∷ link (codes "a") before ∷ link (codes "b") (Partial i j)
    ∷ link (codes "c") carry ∷ link (codes "s") (Sum j i) ∷ link (codes "k") (Carry j i) ∷ []

abbrev pub adder_lines : ℕ → ℕ → ℕ → List (List (List ℕ))
adder_lines n j i = adder_line (from_before n j i) (carry_in j i) j i ∷ []

-- The net of digit t of the product: the lowest one is a partial product. Below n a digit is the lowest sum bit of its row,
-- and above these the last row has the others, with its last carry bit as the highest. Where there is one row alone, the
-- digit above it is 0.
abbrev pub source_of : ℕ → ℕ → CaseNet
source_of n t =
    if t == 0 then Partial 0 0
    else if n == 1 then Zero
    else if nat_lt t n then Sum t 0
    else if nat_lt t (2 * n - 1) then Sum (n - 1) (t - n + 1)
    else Carry (n - 1) (n - 1)

-- digit t of the product is a copy of its net
abbrev pub output_lines : ℕ → ℕ → List (List (List ℕ))
output_lines n t =
    (codes ".names" ∷ net_name (source_of n t) ∷ net_name (Digit Product t) ∷ [])
    ∷ (codes "1" ∷ codes "1" ∷ [])
    ∷ []

-- the end of the multiplier, and the model of a full adder: the sum bit is 1 where one or three of its inputs are, the carry
-- bit where two or three are
abbrev pub end_lines : List (List (List ℕ))
end_lines =
    (codes ".end" ∷ [])
    ∷ (codes ".model" ∷ codes "fa" ∷ [])
    ∷ (codes ".inputs" ∷ codes "a" ∷ codes "b" ∷ codes "c" ∷ [])
    ∷ (codes ".outputs" ∷ codes "s" ∷ codes "k" ∷ [])
    ∷ (codes ".names" ∷ codes "a" ∷ codes "b" ∷ codes "c" ∷ codes "s" ∷ [])
    ∷ (codes "100" ∷ codes "1" ∷ [])
    ∷ (codes "010" ∷ codes "1" ∷ [])
    ∷ (codes "001" ∷ codes "1" ∷ [])
    ∷ (codes "111" ∷ codes "1" ∷ [])
    ∷ (codes ".names" ∷ codes "a" ∷ codes "b" ∷ codes "c" ∷ codes "k" ∷ [])
    ∷ (codes "11-" ∷ codes "1" ∷ [])
    ∷ (codes "1-1" ∷ codes "1" ∷ [])
    ∷ (codes "-11" ∷ codes "1" ∷ [])
    ∷ (codes ".end" ∷ [])
    ∷ []

-- the partial products row by row, and the adders of each row from 1 on
abbrev pub all_partials : ℕ → List (List (List ℕ))
all_partials n = flat_map (λ j. flat_map (partial_lines j) (below n)) (below n)

abbrev pub all_adders : ℕ → List (List (List ℕ))
all_adders n = flat_map (λ j. flat_map (adder_lines n j) (below n)) (range_with_len 1 (n - 1))

abbrev pub all_outputs : ℕ → List (List (List ℕ))
all_outputs n = flat_map (output_lines n) (below (2 * n))

unfoldable pub netlist_lines : ℕ → List (List (List ℕ))
netlist_lines n = head_lines n ++ (all_partials n ++ (all_adders n ++ (all_outputs n ++ end_lines)))
