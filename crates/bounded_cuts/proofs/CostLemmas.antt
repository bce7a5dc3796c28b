-- A cut within another costs less, unless they are equal.
use Rattle.bounded_cuts.proofs.Common.{◌≡◌, ℕ, suc, ap, ◌*◌, ◌+◌, ◌^◌, ◌<◌, ◌≤◌, if◌then◌else◌, List, [], ◌∷◌, length, sum_by, refl, inl, inr, arith, pow-suc, pow_mono, sum_by-cons, In, Within, IsAscending, TABLE_PRICE, Order, LeastHeight, FewestLeaves, LeastCost, flow_at, is_favoured, Pricing, first_of, Qualifies, height, label_at, height_within}

-- what is above a list's head is in its rest
rest_within : (y : ℕ) (xs ys : List ℕ) → ((n : ℕ) → In xs n → y < n) → Within xs (y ∷ ys) → Within xs ys
rest_within y xs ys above w n i = elim (w n i) [ inl e ↦ (let k : y < n = above n i in absurd (omega arith)) | inr j ↦ j ]

pub sum_within : (f : ℕ → ℕ) (a b : List ℕ) → IsAscending a → IsAscending b → Within a b → sum_by f a ≤ sum_by f b
sum_within f [] b h k w = omega arith
sum_within f (x ∷ xs) [] h k w = absurd (w x (inl refl))
sum_within f (x ∷ xs) (y ∷ ys) h k w = elim (w x (inl refl)) [
  | inl e ↦ (let r : sum_by f xs ≤ sum_by f ys = sum_within f xs ys h.1 k.1 (rest_within y xs ys (λ n i. let l : x < n = h.0 n i in omega arith) (λ n i. w n (inr i))) in
      let s : f x ≡ f y = ap f e in
      omega (arith, sum_by-cons f x xs, sum_by-cons f y ys))
  | inr i ↦ (let below : y < x = k.0 x i in
      let r : sum_by f (x ∷ xs) ≤ sum_by f ys = sum_within f (x ∷ xs) ys h k.1 (rest_within y (x ∷ xs) ys (λ n j. elim j [ inl e ↦ omega arith | inr m ↦ (let l : x < n = h.0 n m in omega arith) ]) w) in
      omega (arith, sum_by-cons f y ys))
]

-- fewer of the same leaves cost less
cost_less : (f : ℕ → ℕ) (c d : List ℕ) → IsAscending c → IsAscending d → Within c d → length c < length d → TABLE_PRICE + (2 ^ length c + sum_by f c) < TABLE_PRICE + (2 ^ length d + sum_by f d)
cost_less f c d h k w l = omega (arith, sum_within f c d h k w, pow_mono l, pow_mono {i = 0} {j = length c} (omega arith), pow-suc 2 (length c))

pub costs_less : (order : Order) (p : Pricing) (c d : List ℕ) → IsAscending c → IsAscending d → Within c d → length c < length d → first_of order p c < first_of order p d
costs_less LeastHeight p c d h k w l = cost_less (flow_at p.lows) c d h k w l
costs_less FewestLeaves p c d h k w l = l
costs_less LeastCost p c d h k w l = cost_less (λ m. if is_favoured p.favoured m then 0 else flow_at p.flows m) c d h k w l

-- an order that looks at a cut looks at one within it
pub qualifies_within : (order : Order) (p : Pricing) (r : ℕ) (c d : List ℕ) → Within c d → r ≤ height (label_at p.labels) c → Qualifies order p r d → Qualifies order p r c
qualifies_within LeastHeight p r c d w l q = let m : height (label_at p.labels) c ≤ height (label_at p.labels) d = height_within (label_at p.labels) c d w in omega arith
qualifies_within order p r c d w l q = q
