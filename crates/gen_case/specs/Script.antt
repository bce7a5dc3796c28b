-- The parameter list and the script of a multiplier of n digits.
use Rattle.std.specs.Prelude.{ℕ, ◌+◌, ◌*◌, ◌%◌, ◌^◌, List, [], ◌∷◌, ◌++◌, map, codes}
pub use Rattle.list_laws.specs.Digits.{digit_text}
use Rattle.std.specs.List.{flat_map, range_with_len}
use Rattle.list_laws.specs.Digits.{digit}
use Rattle.gen_case.specs.declared.net.Bus.TheVariants.{Coefficient}
use Rattle.gen_case.specs.declared.net.CaseNet.TheVariants.{Digit}
use Rattle.gen_case.specs.Lines.{below}
use Rattle.gen_case.specs.Netlist.{net_name}

-- the coefficient before the first round
abbrev pub first_coefficient : ℕ → ℕ → ℕ
first_coefficient n seed = seed % 2 ^ n

-- the coefficient of round j
abbrev pub coefficient_of : ℕ → ℕ → ℕ → ℕ
coefficient_of n seed j = (seed + 2654435761 * j) % 2 ^ n

-- the data of round j
abbrev pub data_of : ℕ → ℕ → ℕ → ℕ
data_of n seed j = (seed + 40503 * j * j) % 2 ^ n

-- a digit of the coefficient as a parameter, with its value at the start
abbrev pub param_lines : ℕ → ℕ → List (List (List ℕ))
param_lines value place = (net_name (Digit Coefficient place) ∷ digit_text (digit value place) ∷ []) ∷ []

abbrev pub all_params : ℕ → ℕ → List (List (List ℕ))
all_params n seed = flat_map (param_lines (first_coefficient n seed)) (below n)

-- `name=digit`
abbrev pub setting : ℕ → ℕ → List ℕ
setting value place = net_name (Digit Coefficient place) ++ (codes "=" ++ digit_text (digit value place))

-- the digits of a number as one word, the lowest first
abbrev pub digits_text : ℕ → ℕ → List ℕ
digits_text n value = flat_map (λ place. digit_text (digit value place)) (below n)

abbrev pub set_line : ℕ → ℕ → List (List ℕ)
set_line n value = codes "set" ∷ map (setting value) (below n)

abbrev pub cycle_line : ℕ → ℕ → List (List ℕ)
cycle_line n value = codes "cycle" ∷ digits_text n value ∷ []

-- round j: all digits of a coefficient are set, and then the data come in one cycle
abbrev pub round_lines : ℕ → ℕ → ℕ → List (List (List ℕ))
round_lines n seed j =
    set_line n (coefficient_of n seed j)
    ∷ cycle_line n (data_of n seed j)
    ∷ []

-- rounds from 1 on
unfoldable pub rounds : ℕ → ℕ → ℕ → List (List (List ℕ))
rounds n seed count = flat_map (round_lines n seed) (range_with_len 1 count)

abbrev pub script_lines : ℕ → ℕ → List (List (List ℕ))
script_lines n seed = rounds n seed 100
