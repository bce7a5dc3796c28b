-- The bits of some LUTs: those of each lie within those of all, and all are no more than the LUTs' work.
use Rattle.cover_pick.proofs.Common.{◌≡◌, ℕ, ◌+◌, ◌^◌, ◌≤◌, List, [], ◌∷◌, length, sym, subst, inl, inr, arith, mul-le-mul_left, mul-one, sum_by-cons, In, Aig, Lut, HaveBases, bits_of, IsOwnWork, IsWork, rules}

pub base_within : (b : ℕ) (ts : List Lut) (t : Lut) → HaveBases b ts → In ts t → t.base + 2 ^ length t.leaves ≤ b + bits_of ts
base_within b [] t h i = elim i [ ]
base_within b (u ∷ ts) t h (inl e) =
    subst (λ (x : Lut). x.base + 2 ^ length x.leaves ≤ b + bits_of (u ∷ ts)) (sym e) (omega (arith, sum_by-cons (λ (x : Lut). 2 ^ length x.leaves) u ts))
base_within b (u ∷ ts) t h (inr i) = search (rules, sum_by-cons, base_within (b + 2 ^ length u.leaves) ts t h.1 i)

bits_own : (once : ℕ → Type 0) (g : Aig) (ts : List Lut) (work : ℕ) → IsOwnWork g once ts work → bits_of ts ≤ work
bits_own once g [] work is = omega arith
bits_own once g (t ∷ ts) work is = search (rules, sum_by-cons, mul-le-mul_left, mul-one, bits_own once g ts is.1 is.3)

pub bits_worked : {once : ℕ → Type 0} (g : Aig) (ts : List Lut) (work : ℕ) → IsWork g once ts work → bits_of ts ≤ work
bits_worked {once} g ts work is = omega (arith, bits_own once g ts is.own is.is_own, is.work_is)
