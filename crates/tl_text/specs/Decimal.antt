-- Decimal numbers and bits as they are written.
use Rattle.std.specs.Prelude.{ℕ, ◌+◌, ◌-◌, ◌*◌, Bool, true, false, ◌&&◌, ◌||◌, not, if◌then◌else◌, ◌==◌, nat_le, nat_lt, List, [], ◌∷◌, length, Option, Some, None, bytes_eq, codes}
use Rattle.std.specs.List.{list_all}

abbrev pub is_digit : ℕ → Bool
is_digit b = nat_le 48 b && nat_le b 57

-- `0`, or a digit 1 to 9 followed by digits
abbrev pub is_decimal : List ℕ → Bool
is_decimal [] = false
is_decimal (b ∷ bs) = list_all is_digit (b ∷ bs) && (not (b == 48) || (length bs == 0))

-- the number that digits write after others
abbrev pub number_from : ℕ → List ℕ → ℕ
number_from n [] = n
number_from n (b ∷ bs) = number_from (10 * n + (b - 48)) bs

-- the decimal number that a text writes, where it is below 2 ^ 64
abbrev pub decimal_of : List ℕ → Option ℕ
decimal_of text = if is_decimal text && nat_lt (number_from 0 text) 18446744073709551616 then Some (number_from 0 text) else None

-- the bit that a text writes
abbrev pub bit_of : List ℕ → Option Bool
bit_of text = if bytes_eq text (codes "0") then Some false else if bytes_eq text (codes "1") then Some true else None
