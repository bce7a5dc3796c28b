-- The number that digits write.
use Rattle.tl_text.proofs.Common.{◌≡◌, ℕ, ◌+◌, ◌-◌, ◌*◌, ◌<◌, ◌≤◌, ◌&&◌, List, [], ◌∷◌, length, get_or, drop, Some, None, sym, ap, ◌∙◌, arith, ltb, le-ltb, and_right, cond-false, drop_more, is_decimal, number_from, decimal_of}

-- more digits make no smaller number
number_from_least : (n : ℕ) (bs : List ℕ) → n ≤ number_from n bs
number_from_least n [] = omega arith
number_from_least n (b ∷ bs) = let h : 10 * n + (b - 48) ≤ number_from (10 * n + (b - 48)) bs = number_from_least (10 * n + (b - 48)) bs in omega arith

-- the number so far with one more digit is too large
pub decimal_stops : (text : List ℕ) (n i : ℕ) → i < length text → number_from n (drop i text) ≡ number_from 0 text → 18446744073709551616 ≤ 10 * n + (get_or text i 0 - 48) → decimal_of text ≡ None
decimal_stops text n i within same large = grind (arith, number_from_least, drop_more, cond-false, ltb, and_right, le-ltb)
