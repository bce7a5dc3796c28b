-- A worked example: the multiplexer with the one LUT of its root, the literal 13, over the inputs a and b. With p = 0 the LUT has b's values, the configuration 0 0 1 1, and with p = 1 it has a's, 0 1 0 1.
use Rattle.bit_fun.proofs.Common.{◌≡◌, ℕ, zero, suc, ◌-◌, ◌<◌, Bool, true, false, not, ◌&&◌, [], ◌∷◌, get_or, refl, inl, inr, arith, In, digit, in_phase, multiplexer, pair, Lut, IsParam, IsConfiguration}
use Rattle.bit_fun.specs.BitFunction.{NodeBit, leaf, parameter, node, IsBit}

abbrev pub root_table : Lut
root_table = record { lit = record { 0 = 13 }; leaves = 1 ∷ 2 ∷ []; base = 0 }

-- what node 6 is for v, by the digits of v as a and b
abbrev pub node_6 : Bool → Bool → Bool → Bool
node_6 a b p = not (a && p) && not (b && not p)

above : (n : ℕ) → 2 < n → In (1 ∷ 2 ∷ []) n → ⊥
above n l (inl e) = omega arith
above n l (inr (inl e)) = omega arith
above n l (inr (inr none)) = none

-- the recursion from node 6
pub bit_6 : (p : Bool) (v : ℕ) → NodeBit multiplexer (p ∷ []) (1 ∷ 2 ∷ []) v 6 (node_6 (digit v 0) (digit v 1) p)
bit_6 p v =
    let is_p : IsParam multiplexer 0 3 = record { source = record { above = omega arith; is = refl }; place = refl } in
    let value_p : NodeBit multiplexer (p ∷ []) (1 ∷ 2 ∷ []) v 3 p = parameter 0 is_p refl in
    let bit_4 : NodeBit multiplexer (p ∷ []) (1 ∷ 2 ∷ []) v 4 (digit v 0 && p) =
    node (pair 2 6) (digit v 0) p (above 4 (omega arith)) (record { above = omega arith; is = refl }) (leaf 0 refl refl) value_p (both (digit v 0) p) in
    let bit_5 : NodeBit multiplexer (p ∷ []) (1 ∷ 2 ∷ []) v 5 (digit v 1 && not p) =
    node (pair 4 7) (digit v 1) p (above 5 (omega arith)) (record { above = omega arith; is = refl }) (leaf 1 refl refl) value_p (but_not (digit v 1) p) in
    node (pair 9 11) (digit v 0 && p) (digit v 1 && not p) (above 6 (omega arith)) (record { above = omega arith; is = refl }) bit_4 bit_5 (neither (digit v 0 && p) (digit v 1 && not p))
  where
    both : (x y : Bool) → (x && y) ≡ (in_phase 2 x && in_phase 6 y)
    both true true = refl
    both true false = refl
    both false true = refl
    both false false = refl

    but_not : (x y : Bool) → (x && not y) ≡ (in_phase 4 x && in_phase 7 y)
    but_not true true = refl
    but_not true false = refl
    but_not false true = refl
    but_not false false = refl

    neither : (x y : Bool) → (not x && not y) ≡ (in_phase 9 x && in_phase 11 y)
    neither true true = refl
    neither true false = refl
    neither false true = refl
    neither false false = refl

-- the bit at an address of the table
at : (p : Bool) (b : ℕ) (bit : Bool) → b < 4 → bit ≡ in_phase 13 (node_6 (digit (b - 0) 0) (digit (b - 0) 1) p) → IsBit multiplexer (root_table ∷ []) (p ∷ []) b bit
at p b bit below e = record { table = root_table; in' = inl refl; from = omega arith; before = below; value = node_6 (digit (b - 0) 0) (digit (b - 0) 1) p; by = bit_6 p (b - 0); is = e }

bits_with_0 : (b : ℕ) → b < 4 → IsBit multiplexer (root_table ∷ []) (false ∷ []) b (get_or (false ∷ false ∷ true ∷ true ∷ []) b false)
bits_with_0 zero l = at false 0 false l refl
bits_with_0 (suc zero) l = at false 1 false l refl
bits_with_0 (suc (suc zero)) l = at false 2 true l refl
bits_with_0 (suc (suc (suc zero))) l = at false 3 true l refl
bits_with_0 (suc (suc (suc (suc b)))) l = absurd (omega arith)

pub configuration_with_0 : IsConfiguration multiplexer (root_table ∷ []) (false ∷ []) (false ∷ false ∷ true ∷ true ∷ [])
configuration_with_0 = record { count = refl; each = bits_with_0 }

bits_with_1 : (b : ℕ) → b < 4 → IsBit multiplexer (root_table ∷ []) (true ∷ []) b (get_or (false ∷ true ∷ false ∷ true ∷ []) b false)
bits_with_1 zero l = at true 0 false l refl
bits_with_1 (suc zero) l = at true 1 true l refl
bits_with_1 (suc (suc zero)) l = at true 2 false l refl
bits_with_1 (suc (suc (suc zero))) l = at true 3 true l refl
bits_with_1 (suc (suc (suc (suc b)))) l = absurd (omega arith)

pub configuration_with_1 : IsConfiguration multiplexer (root_table ∷ []) (true ∷ []) (false ∷ true ∷ false ∷ true ∷ [])
configuration_with_1 = record { count = refl; each = bits_with_1 }
