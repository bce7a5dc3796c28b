-- Numbers by their binary digits, the lowest first.
use Rattle.std.specs.Prelude.{ℕ, ◌+◌, ◌*◌, ◌/◌, ◌%◌, ◌^◌, Bool, true, false, ◌==◌, List, [], ◌∷◌, codes, slice_index_or}

-- a digit as a number
abbrev pub bit_value : Bool → ℕ
bit_value true = 1
bit_value false = 0

-- the number with these binary digits: the sum of 2 ^ j over the places j that are true
abbrev pub number : List Bool → ℕ
number [] = 0
number (b ∷ bs) = bit_value b + 2 * number bs

-- the binary digit of a number at a place
abbrev pub digit : ℕ → ℕ → Bool
digit n place = (n / 2 ^ place) % 2 == 1

-- a digit as text
abbrev pub digit_text : Bool → List ℕ
digit_text true = codes "1"
digit_text false = codes "0"

-- the bit at a place of a list, and false past its end
abbrev pub bit_in : List Bool → ℕ → Bool
bit_in bits place = slice_index_or bits place false
