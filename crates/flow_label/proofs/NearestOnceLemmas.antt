-- Two least low cuts nearest to the node are the same.
use Rattle.flow_label.proofs.Common.{◌≡◌, ℕ, ◌<◌, ◌≤◌, Bool, true, List, [], ◌∷◌, length, refl, sym, subst, inl, inr, eqb, arith, cases_eq, cases_Bool, ap, eqb-true, eqb-false, Aig, AreNormal, first_and, In, IsAscending, Blocks, member, constant, parameter, fan_ins, apart_short, choose, rules, not, not-true, filter, node_normal, filtered_apart, In-filter, in_filter, in_or, same_within, IsNearest}
use Rattle.flow_label.proofs.OnceLemmas.{ascending_apart}

-- a list without one number
abbrev others : ℕ → List ℕ → List ℕ
others m c = filter (λ x. not (eqb x m)) c

other : (x m : ℕ) → (x ≡ m → ⊥) → not (eqb x m) ≡ true
other x m ne = elim (cases_Bool (eqb x m)) [ inl t ↦ absurd (ne (eqb-true x m t)) | inr f ↦ ap not f ]

in_others : (c : List ℕ) (m x : ℕ) → In c x → (x ≡ m → ⊥) → In (others m c) x
in_others c m x i ne = in_filter (λ x. not (eqb x m)) c x i (other x m ne)

from_others : (c : List ℕ) (m x : ℕ) → In (others m c) x → In c x × (x ≡ m → ⊥)
from_others c m x i = let f = In-filter (λ x. not (eqb x m)) c x i in (f.0, eqb-false x m (not-true (eqb x m) f.1))

filtered_ascending : (test : ℕ → Bool) (xs : List ℕ) → IsAscending xs → IsAscending (filter test xs)
filtered_ascending test [] a = tt
filtered_ascending test (x ∷ xs) a =
    choose (λ l. IsAscending l) (test x) (x ∷ filter test xs) (filter test xs) (λ t. ((λ n i. a.0 n (In-filter test xs n i).0), (filtered_ascending test xs a.1))) (λ u. (filtered_ascending test xs a.1))

-- it is shorter
others_shorter : (c : List ℕ) (m : ℕ) → IsAscending c → In c m → length (others m c) < length c
others_shorter c m a i =
    let l : length (m ∷ others m c) ≤ length c = apart_short (m ∷ others m c) c
    ((λ j. (from_others c m m j).1 refl), filtered_apart (λ x. not (eqb x m)) c (ascending_apart c a))
    (λ x j. elim j [ inl e ↦ subst (λ y. In c y) (sym e) i | inr k ↦ (from_others c m x k).0 ]) in
    omega arith

module _ (g : Aig) (normal : AreNormal (first_and g) g.pairs) where
  -- below m nothing is blocked by m
  below_blocked : (c : List ℕ) (m : ℕ) {w : ℕ} → Blocks g c w → w < m → Blocks g (others m c) w
  below_blocked c m {w} (member i) l = member (in_others c m w i (λ e. absurd (omega arith)))
  below_blocked c m (constant e) l = constant e
  below_blocked c m (parameter s) l = parameter s
  below_blocked c m {w} (fan_ins p is x y) l =
      let n = node_normal g w p normal is in
      fan_ins p is (below_blocked c m x (omega arith)) (below_blocked c m y (omega arith))

  -- what another list blocks up to m, where it does not have m and c blocks all that it has
  through_blocked : (c d : List ℕ) (m : ℕ) → ((x : ℕ) → In d x → Blocks g c x) → (In d m → ⊥) → {w : ℕ} → Blocks g d w → w ≤ m → Blocks g (others m c) w
  through_blocked c d m each out {w} (member i) l = search (rules, cases_eq, below_blocked)
  through_blocked c d m each out (constant e) l = constant e
  through_blocked c d m each out (parameter s) l = parameter s
  through_blocked c d m each out {w} (fan_ins p is x y) l =
      let n = node_normal g w p normal is in
      fan_ins p is (through_blocked c d m each out x (omega arith)) (through_blocked c d m each out y (omega arith))

  -- a leaf that the others block is not needed
  without_blocked : (c : List ℕ) (m : ℕ) → Blocks g (others m c) m → {w : ℕ} → Blocks g c w → Blocks g (others m c) w
  without_blocked c m b {w} (member i) = elim (cases_eq w m) [ inl e ↦ subst (λ x. Blocks g (others m c) x) (sym e) b | inr ne ↦ member (in_others c m w i ne) ]
  without_blocked c m b (constant e) = constant e
  without_blocked c m b (parameter s) = parameter s
  without_blocked c m b (fan_ins p is x y) = fan_ins p is (without_blocked c m b x) (without_blocked c m b y)

  -- Of two nearest least low cuts each has the leaves of the other.
  nearest_within : (k n h : ℕ) (label : ℕ → ℕ) (c d : List ℕ) → IsNearest g k n h label c → IsNearest g k n h label d → (m : ℕ) → In c m → In d m
  nearest_within k n h label c d a b m i = elim (in_or d m) [
    | inl j ↦ j
    | inr out ↦ absurd (
        let blocked : Blocks g (others m c) m = through_blocked c d m (λ x j. b.nearest c x a.cut (a.least d b.cut) j) out (a.nearest d m b.cut (b.least c a.cut) i) (omega arith) in
        let shorter : length (others m c) < length c = others_shorter c m a.cut.cut.ascending i in
        let l : length c ≤ length (others m c) = grind (arith, others, filtered_ascending, eqb, from_others, without_blocked) in
        (let no : ⊥ = omega arith in no))
  ]

  pub nearest_once : (k n h : ℕ) (label : ℕ → ℕ) (c d : List ℕ) → IsNearest g k n h label c → IsNearest g k n h label d → c ≡ d
  nearest_once k n h label c d a b = same_within c d a.cut.cut.ascending b.cut.cut.ascending (λ m i. nearest_within k n h label c d a b m i) (λ m i. nearest_within k n h label d c b a m i)
