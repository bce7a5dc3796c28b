-- A worked example of the work: a free node that two LUTs share.
--
-- Its sources are the inputs 1 and 2 and the parameters 3 and 4. Node 5 is the product of both parameters, and nodes 6 and 7
-- are its products with an input each. The LUTs of nodes 6 and 7 have one leaf, the input.
use Rattle.cover_pick.proofs.Common.{◌≡◌, ℕ, zero, suc, ◌+◌, ◌-◌, ◌/◌, ◌≤◌, List, [], ◌∷◌, Some, refl, sym, ap, ◌∙◌, subst, inl, inr, ◌⊎◌, arith, slice_get, same_Some, none-some, Aig, first_and, IsNormal, AreNormal, source_below, Regular, Parameter, Pair, pair, In, Lut, IsCone, AreOwn, AreShared, IsFree, free_constant, free_parameter, free_product, IsWork, Path}
use Rattle.cover_pick.proofs.WorkLemmas.{cone_is}
use Rattle.cover_pick.proofs.OwnLemmas.{cone_own, none_shared}

abbrev pub gates : Aig
gates = record { kinds = Regular ∷ Regular ∷ Parameter ∷ Parameter ∷ []; pairs = pair 6 8 ∷ pair 2 10 ∷ pair 4 10 ∷ []; max = 3 }

pair_is : (n : ℕ) (p q : Pair) → IsNormal n p → p ≡ q → IsNormal n q
pair_is n p q is e = subst (λ (r : Pair). IsNormal n r) e is

gates_each : (i : ℕ) (p : Pair) → slice_get gates.pairs i ≡ Some p → IsNormal (5 + i) p
gates_each zero p e = pair_is 5 (pair 6 8) p (record { no_constant = omega arith; ordered = omega arith; below = omega arith }) (same_Some (pair 6 8) p e)
gates_each (suc zero) p e = pair_is 6 (pair 2 10) p (record { no_constant = omega arith; ordered = omega arith; below = omega arith }) (same_Some (pair 2 10) p e)
gates_each (suc (suc zero)) p e = pair_is 7 (pair 4 10) p (record { no_constant = omega arith; ordered = omega arith; below = omega arith }) (same_Some (pair 4 10) p e)
gates_each (suc (suc (suc i))) p e = absurd (none-some p e)

place : (i : ℕ) (p : Pair) → slice_get gates.pairs i ≡ Some p → (p.x.0 ≡ 6 → i ≡ 0) × (p.x.0 ≡ 2 → i ≡ 1) × (p.x.0 ≡ 4 → i ≡ 2) × ((p.x.0 ≡ 6) ⊎ ((p.x.0 ≡ 2) ⊎ (p.x.0 ≡ 4)))
place zero p e = let x : 6 ≡ p.x.0 = ap (λ (q : Pair). q.x.0) (same_Some (pair 6 8) p e) in ((λ a. refl), (λ a. absurd (omega arith)), (λ a. absurd (omega arith)), inl (sym x))
place (suc zero) p e = let x : 2 ≡ p.x.0 = ap (λ (q : Pair). q.x.0) (same_Some (pair 2 10) p e) in ((λ a. absurd (omega arith)), (λ a. refl), (λ a. absurd (omega arith)), inr (inl (sym x)))
place (suc (suc zero)) p e = let x : 4 ≡ p.x.0 = ap (λ (q : Pair). q.x.0) (same_Some (pair 4 10) p e) in ((λ a. absurd (omega arith)), (λ a. absurd (omega arith)), (λ a. refl), inr (inr (sym x)))
place (suc (suc (suc i))) p e = absurd (none-some p e)

gates_normal : AreNormal (first_and gates) gates.pairs
gates_normal = record {
  each = gates_each;
  once = λ i j p e f.
      let a = place i p e in
      let b = place j p f in
      elim a.3 [ inl q ↦ a.0 q ∙ sym (b.0 q) | inr r ↦ elim r [ inl q ↦ a.1 q ∙ sym (b.1 q) | inr q ↦ a.2 q ∙ sym (b.2 q) ] ];
}

abbrev pub low : Lut
low = record { lit = record { 0 = 12 }; leaves = 1 ∷ []; base = 0 }

abbrev pub high : Lut
high = record { lit = record { 0 = 14 }; leaves = 2 ∷ []; base = 2 }

abbrev pub gate_luts : List Lut
gate_luts = low ∷ high ∷ []

low_cone : IsCone gates (1 ∷ []) 6 (6 ∷ 5 ∷ [])
low_cone = cone_is gates (1 ∷ []) 6 gates_normal (omega arith)

high_cone : IsCone gates (2 ∷ []) 7 (7 ∷ 5 ∷ [])
high_cone = cone_is gates (2 ∷ []) 7 gates_normal (omega arith)

-- By the fewest leaves the work is 2 * (1 + 2) for each LUT.
pub apart_work : IsWork gates (λ n. ⊥) gate_luts 12
apart_work = record {
  own = 12;
  is_own = (
    6,
    6,
    record { nodes = 6 ∷ 5 ∷ []; are = cone_own gates (1 ∷ []) 6 (6 ∷ 5 ∷ []) low_cone; work_is = refl },
    (6, 0, record { nodes = 7 ∷ 5 ∷ []; are = cone_own gates (2 ∷ []) 7 (7 ∷ 5 ∷ []) high_cone; work_is = refl }, refl, refl),
    refl,
  );
  shared = [];
  are_shared = none_shared gates gate_luts;
  work_is = refl;
}

each_lut : (P : Lut → Type 0) → P low → P high → (t : Lut) → In gate_luts t → P t
each_lut P a b t (inl e) = subst P (sym e) a
each_lut P a b t (inr (inl e)) = subst P (sym e) b
each_lut P a b t (inr (inr x)) = absurd x

-- node 5 is free
five_free : IsFree gates gate_luts 5
five_free = free_product (pair 6 8) (each_lut (λ t. In t.leaves 5 → ⊥) (λ i. elim i [ inl e ↦ omega arith | inr x ↦ x ]) (λ i. elim i [ inl e ↦ omega arith | inr x ↦ x ])) (record { above = omega arith; is = refl })
    (free_parameter (record { above = omega arith; is = refl })) (free_parameter (record { above = omega arith; is = refl }))

-- an input isn't
input_not : (n : ℕ) → (n ≡ 1) ⊎ (n ≡ 2) → IsFree gates gate_luts n → ⊥
input_not n is (free_constant z) = elim is [ inl e ↦ omega arith | inr e ↦ omega arith ]
input_not n is (free_parameter s) = elim is [
  | inl e ↦ (let f : Some Regular ≡ Some Parameter = subst (λ k. slice_get gates.kinds (k - 1) ≡ Some Parameter) e s.is in cc)
  | inr e ↦ (let f : Some Regular ≡ Some Parameter = subst (λ k. slice_get gates.kinds (k - 1) ≡ Some Parameter) e s.is in cc)
]
input_not n is (free_product p out at fx fy) = elim is [ inl e ↦ omega (arith, at.above) | inr e ↦ omega (arith, at.above) ]

-- so neither is a node above one
gate_not : (n : ℕ) (q : Pair) → 5 ≤ n → slice_get gates.pairs (n - 5) ≡ Some q → (q.x.0 / 2 ≡ 1) ⊎ (q.x.0 / 2 ≡ 2) → IsFree gates gate_luts n → ⊥
gate_not n q low_n at is (free_constant z) = omega arith
gate_not n q low_n at is (free_parameter s) = omega (arith, s.above, source_below gates Parameter n s)
gate_not n q low_n at is (free_product p out node fx fy) =
    let same : p ≡ q = same_Some p q (sym node.is ∙ at) in
    input_not (q.x.0 / 2) is (subst (λ (r : Pair). IsFree gates gate_luts (r.x.0 / 2)) same fx)

six_not : IsFree gates gate_luts 6 → ⊥
six_not = gate_not 6 (pair 2 10) (omega arith) refl (inl refl)

seven_not : IsFree gates gate_luts 7 → ⊥
seven_not = gate_not 7 (pair 4 10) (omega arith) refl (inr refl)

-- the own nodes of each LUT are its own gate alone
gate_own : (c : List ℕ) (n : ℕ) → (IsFree gates gate_luts n → ⊥) → IsCone gates c n (n ∷ 5 ∷ []) → AreOwn gates (IsFree gates gate_luts) c n (n ∷ [])
gate_own c n bar is = record {
  descending = ((λ m i. absurd i), tt);
  only = λ m i. elim i [ inl e ↦ is.only m (inl e) | inr x ↦ absurd x ];
  apart = λ m i f. elim i [ inl e ↦ bar (subst (λ k. IsFree gates gate_luts k) e f) | inr x ↦ x ];
  all = λ m p off. elim (is.all m p) [ inl e ↦ inl e | inr j ↦ elim j [ inl e ↦ absurd (off (subst (λ k. IsFree gates gate_luts k) (sym e) five_free)) | inr x ↦ absurd x ] ];
}

-- and node 5 is shared
five_shared : AreShared gates (IsFree gates gate_luts) gate_luts (5 ∷ [])
five_shared = record {
  descending = ((λ m i. absurd i), tt);
  only = λ m i. elim i [ inl e ↦ (subst (λ k. IsFree gates gate_luts k) (sym e) five_free, low, inl refl, low_cone.only m (inr (inl e))) | inr x ↦ absurd x ];
  all = λ m t i p f. each_lut (λ u. Path gates u.leaves m (u.lit.0 / 2) → In (5 ∷ []) m) (λ q. above 6 (1 ∷ []) six_not low_cone m f q) (λ q. above 7 (2 ∷ []) seven_not high_cone m f q) t i p;
}
  where
    above : (n : ℕ) (c : List ℕ) → (IsFree gates gate_luts n → ⊥) → IsCone gates c n (n ∷ 5 ∷ []) → (m : ℕ) → IsFree gates gate_luts m → Path gates c m n → In (5 ∷ []) m
    above n c bar is m f q = elim (is.all m q) [ inl e ↦ absurd (bar (subst (λ k. IsFree gates gate_luts k) e f)) | inr j ↦ j ]

-- By the least cost it is 2 * (1 + 1) for each LUT, and 1 for the free node.
pub shared_work : IsWork gates (IsFree gates gate_luts) gate_luts 9
shared_work = record {
  own = 8;
  is_own = (
    4,
    4,
    record { nodes = 6 ∷ []; are = gate_own (1 ∷ []) 6 six_not low_cone; work_is = refl },
    (4, 0, record { nodes = 7 ∷ []; are = gate_own (2 ∷ []) 7 seven_not high_cone; work_is = refl }, refl, refl),
    refl,
  );
  shared = 5 ∷ [];
  are_shared = five_shared;
  work_is = refl;
}
