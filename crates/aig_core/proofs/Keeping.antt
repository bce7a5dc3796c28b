-- A graph's normal form stays when a new pair is put at the end.
use Rattle.aig_core.proofs.Common.{◌≡◌, ℕ, ◌+◌, eqb, List, [], ◌∷◌, ◌++◌, length, Some, None, ap, inl, inr, ◌⊎◌, arith, length-append, slice_get, position, eq-eqb, and_from, both_ways, fails_everywhere, get_pushed, Kind, Pair, IsNormal, AreNormal, is_pair}
use Rattle.aig_core.specs.Keeps.{Keeps}

-- a fresh pair is no pair of the list
fresh_differs : (pairs : List Pair) (q : Pair) (i : ℕ) (p : Pair) → position (is_pair q.x.0 q.y.0) pairs ≡ None → slice_get pairs i ≡ Some p → q ≡ p → ⊥
fresh_differs pairs q i p fresh at same =
    both_ways (is_pair q.x.0 q.y.0 p) (fails_everywhere (is_pair q.x.0 q.y.0) pairs i p fresh at)
    (and_from (eqb q.x.0 p.x.0) (eqb q.y.0 p.y.0) (eq-eqb q.x.0 p.x.0 (ap (λ (r : Pair). r.x.0) same)) (eq-eqb q.y.0 p.y.0 (ap (λ (r : Pair). r.y.0) same)))

once_push : (pairs : List Pair) (q : Pair) (i j : ℕ) (p : Pair) → position (is_pair q.x.0 q.y.0) pairs ≡ None
    → ((i j : ℕ) (p : Pair) → slice_get pairs i ≡ Some p → slice_get pairs j ≡ Some p → i ≡ j)
    → (slice_get pairs i ≡ Some p) ⊎ ((i ≡ length pairs) × (q ≡ p)) → (slice_get pairs j ≡ Some p) ⊎ ((j ≡ length pairs) × (q ≡ p)) → i ≡ j
once_push pairs q i j p fresh once (inl a) (inl b) = once i j p a b
once_push pairs q i j p fresh once (inl a) (inr b) = absurd (fresh_differs pairs q i p fresh a b.1)
once_push pairs q i j p fresh once (inr a) (inl b) = absurd (fresh_differs pairs q j p fresh b a.1)
once_push pairs q i j p fresh once (inr a) (inr b) = omega arith

normal_push : (first : ℕ) (pairs : List Pair) (q : Pair) (i : ℕ) (p : Pair) → IsNormal (first + length pairs) q
    → ((i : ℕ) (p : Pair) → slice_get pairs i ≡ Some p → IsNormal (first + i) p)
    → (slice_get pairs i ≡ Some p) ⊎ ((i ≡ length pairs) × (q ≡ p)) → IsNormal (first + i) p
normal_push first pairs q i p normal each (inl a) = each i p a
normal_push first pairs q i p normal each (inr a) = rw (a.0, ← a.1) normal

-- pairs that are normal stay so with a fresh one at the end
pub AreNormal-push : (first : ℕ) (pairs : List Pair) (q : Pair) → AreNormal first pairs → position (is_pair q.x.0 q.y.0) pairs ≡ None → IsNormal (first + length pairs) q → AreNormal first (pairs ++ q ∷ [])
AreNormal-push first pairs q are fresh normal = record {
  each = λ i p h. normal_push first pairs q i p normal are.each (get_pushed pairs q i p h);
  once = λ i j p h k. once_push pairs q i j p fresh are.once (get_pushed pairs q i p h) (get_pushed pairs q j p k);
}

pub Keeps-push : (kinds : List Kind) (pairs : List Pair) (max : ℕ) (q : Pair) → Keeps kinds pairs max → (length pairs ≡ max → ⊥) → position (is_pair q.x.0 q.y.0) pairs ≡ None → IsNormal (1 + length kinds + length pairs) q → Keeps kinds (pairs ++ q ∷ []) max
Keeps-push kinds pairs max q keeps room fresh normal = record {
  room = omega (arith, keeps.room, length-append pairs (q ∷ []));
  small = keeps.small;
  normal = AreNormal-push (1 + length kinds) pairs q keeps.normal fresh normal;
}
