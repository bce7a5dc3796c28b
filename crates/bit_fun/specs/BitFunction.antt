-- The bit function: what the bit at an address is under the parameters' values.
use Rattle.std.specs.Prelude.{◌≡◌, ℕ, ◌+◌, ◌-◌, ◌/◌, ◌^◌, ◌<◌, ◌≤◌, Bool, false, ◌&&◌, List, length, Some, slice_get}
use Rattle.bit_fun.specs.Words.{In, digit, Pair, Aig, IsNode, in_phase, Lut}
use Rattle.bit_fun.specs.Parameters.{IsParam}

-- The value of a node for v, by recursion from it: leaf j has the binary digit j of v, the constant is 0, a parameter has its value, and an AND node that is no leaf is the product of its two literals' values.
pub data NodeBit (g : Aig) (params : List Bool) (leaves : List ℕ) (v : ℕ) : ℕ → Bool → Type 0 where
  leaf : {n : ℕ} {bit : Bool} (j : ℕ) → slice_get leaves j ≡ Some n → bit ≡ digit v j → NodeBit g params leaves v n bit
  constant : {n : ℕ} {bit : Bool} → n ≡ 0 → bit ≡ false → NodeBit g params leaves v n bit
  parameter : {n : ℕ} {bit : Bool} (j : ℕ) → IsParam g j n → slice_get params j ≡ Some bit → NodeBit g params leaves v n bit
  node : {n : ℕ} {bit : Bool} (p : Pair) (x y : Bool) → (In leaves n → ⊥) → IsNode g p n → NodeBit g params leaves v (p.x.0 / 2) x → NodeBit g params leaves v (p.y.0 / 2) y
      → bit ≡ (in_phase p.x.0 x && in_phase p.y.0 y) → NodeBit g params leaves v n bit

-- The bit at the address b: some table has this address, and its literal has this value for what b is past the table's base.
pub record IsBit (g : Aig) (luts : List Lut) (params : List Bool) (b : ℕ) (bit : Bool) : Type 0 where
  pub table : Lut
  pub in' : In luts table
  pub from : table.base ≤ b
  pub before : b < table.base + 2 ^ length table.leaves
  pub value : Bool
  pub by : NodeBit g params table.leaves (b - table.base) (table.lit.0 / 2) value
  pub is : bit ≡ in_phase table.lit.0 value

-- There is one bit at the address b, and no other.
pub record HasOneBit (g : Aig) (luts : List Lut) (params : List Bool) (b : ℕ) : Type 0 where
  pub bit : Bool
  pub is : IsBit g luts params b bit
  pub only : (other : Bool) → IsBit g luts params b other → other ≡ bit
