-- The digits of the number of some digits are these digits.
use Rattle.std.proofs.Common.{◌≡◌, ℕ, zero, suc, ◌+◌, ◌*◌, ◌/◌, ◌%◌, ◌^◌, ◌<◌, ◌≤◌, Bool, true, false, eqb, List, [], ◌∷◌, length, get_or, sym, ap, arith}
use Rattle.std.proofs.Math.Nat.{pow-succ', div-div-eq-div-mul}
use Rattle.list_laws.specs.Digits.{bit_value, number, digit}

bit_value-small : (b : Bool) → bit_value b ≤ 1
bit_value-small true = omega arith
bit_value-small false = omega arith

-- it is below the power of two of their number
pub number-small : (bs : List Bool) → number bs < 2 ^ length bs
number-small [] = omega arith
number-small (b ∷ bs) = omega (arith, bit_value-small b, number-small bs, pow-succ' 2 (length bs))

-- the lowest digit
pub lowest : (b : Bool) (n : ℕ) → (eqb ((bit_value b + 2 * n) % 2) 1) ≡ b
lowest true n = let e : (1 + 2 * n) % 2 ≡ 1 = omega arith in ap (λ m. eqb m 1) e
lowest false n = let e : (0 + 2 * n) % 2 ≡ 0 = omega arith in ap (λ m. eqb m 1) e

-- the digits above it
pub half : (b : Bool) (n : ℕ) → (bit_value b + 2 * n) / 2 ≡ n
half b n = let s : bit_value b ≤ 1 = bit_value-small b in omega arith

pub digit-number : (bs : List Bool) (j : ℕ) → j < length bs → digit (number bs) j ≡ get_or bs j false
digit-number [] j h = absurd (omega arith)
digit-number (b ∷ bs) zero h = grind arith
digit-number (b ∷ bs) (suc j) h =
    let p : 2 ^ suc j ≡ 2 * 2 ^ j = pow-succ' 2 j in
    let q : (bit_value b + 2 * number bs) / (2 * 2 ^ j) ≡ (bit_value b + 2 * number bs) / 2 / 2 ^ j = sym (div-div-eq-div-mul (bit_value b + 2 * number bs) 2 (2 ^ j)) in
    grind (arith, eqb, half, digit-number bs j (omega arith))
