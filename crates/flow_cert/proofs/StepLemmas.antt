-- The steps of the needed nodes, from above.
use Rattle.flow_cert.proofs.Common.{◌≡◌, ℕ, ◌+◌, ◌<◌, ◌≤◌, Bool, true, false, List, [], ◌∷◌, ◌++◌, length, map, reverse, refl, sym, ap, ◌∙◌, subst, inl, inr, arith, cases_eq, reverse-append, map-append, slice_get_within, Aig, first_and, node_count, AreNormal, In, IsAscending, IsDescending, In-left, In-right, In-push, In-map, from_map, StepValue, AreLeastHeights, IsStepOf, IsShared, HasStep, mark, AreMarked, FitStep, IsWanted, AreDoneTo, AreSteps, rules}
use Rattle.list_laws.proofs.Reversed.{reversed_in, in_reversed}
use Rattle.flow_cert.proofs.GraphLemmas.{path_below}
use Rattle.flow_cert.proofs.LabelLemmas.{high_and, count_one}
use Rattle.flow_cert.specs.Steps as steps

-- the numbers of a step's nodes are in range
pub step_fits : (g : Aig) (k : ℕ) (label : ℕ → ℕ) (s : StepValue) (n : ℕ) → AreNormal (first_and g) g.pairs → n ≡ node_count g → IsStepOf g k label s → FitStep s n
step_fits g k label s n normal e of = search (rules, path_below)

-- a shared node has a label of 1 at least
shared_high : (g : Aig) (k : ℕ) (label : ℕ → ℕ) (s : StepValue) (m : ℕ) → IsStepOf g k label s → IsShared s m → s.claim ≤ label m + 1
shared_high g k label s m of h = of.justified.apart h.i h.j m h.p h.q h.order h.first h.second h.in_first h.in_second (λ e. let l : m < s.node = h.below in absurd (omega arith))

-- a step with two paths claims 2 at least
shared_two : (g : Aig) (k : ℕ) (label : ℕ → ℕ) (s : StepValue) (m : ℕ) → IsStepOf g k label s → IsShared s m → 2 ≤ s.claim
shared_two g k label s m of h = search (rules, cases_eq, count_one, slice_get_within)

want_more : (begin : ℕ) (ss ts : List StepValue) (m : ℕ) → ((t : StepValue) → In ss t → In ts t) → IsWanted begin ss m → IsWanted begin ts m
want_more begin ss ts m part (steps.first e) = steps.first e
want_more begin ss ts m part (steps.shared t i h) = steps.shared t (part t i) h

has_more : (ss ts : List StepValue) (m : ℕ) → ((t : StepValue) → In ss t → In ts t) → HasStep ss m → HasStep ts m
has_more ss ts m part h = record { step = h.step; there = part h.step h.there; is = h.is }

-- a lower step at the end
descending_push : (ss : List StepValue) (s : StepValue) → IsDescending (map (λ (t : StepValue). t.node) ss) → ((t : StepValue) → In ss t → s.node < t.node) → IsDescending (map (λ (t : StepValue). t.node) (ss ++ s ∷ []))
descending_push [] s down above = ((λ m i. absurd i), tt)
descending_push (t ∷ ts) s down above = (
  (λ m i. let r = from_map (λ (u : StepValue). u.node) (ts ++ s ∷ []) m i in elim (In-push ts s r.0 r.1) [
    | inl j ↦ (let l : r.0.node < t.node = down.0 r.0.node (In-map (λ (u : StepValue). u.node) ts r.0 j) in let e : m ≡ r.0.node = r.2 in omega arith)
    | inr q ↦ (let l : s.node < t.node = above t (inl refl) in let e : m ≡ s.node = r.2 ∙ ap (λ (u : StepValue). u.node) q in omega arith)
  ]),
  descending_push ts s down.1 (λ u j. above u (inr j)),
)

module _ (g : Aig) (k : ℕ) (label : ℕ → ℕ) (least : AreLeastHeights g k label) (begin n : ℕ) (marks : List Bool) (ss : List StepValue) (d : AreDoneTo g k label begin (n + 1) marks ss) where
  -- a node that is not marked
  pub done_skip : mark marks n ≡ false → AreDoneTo g k label begin n marks ss
  done_skip off = search (rules, cases_eq)

  -- a node that is marked, with its step
  pub done_push : (s : StepValue) (marks' : List Bool) → mark marks n ≡ true → IsStepOf g k label s → s.node ≡ n → AreMarked s marks marks' → AreDoneTo g k label begin n marks' (ss ++ s ∷ [])
  done_push s marks' on of is w =
      let part : (t : StepValue) → In ss t → In (ss ++ s ∷ []) t = (λ t i. In-left ss (s ∷ []) t i) in
      let last : In (ss ++ s ∷ []) s = In-right ss (s ∷ []) s (inl refl) in
      record {
        size = w.size ∙ d.size;
        descending = descending_push ss s d.descending (λ t i. let l : n + 1 ≤ t.node = d.above t i in omega arith);
        above = λ t i. elim (In-push ss s t i) [ inl j ↦ (let l : n + 1 ≤ t.node = d.above t j in omega arith) | inr e ↦ (let q : t.node ≡ s.node = ap (λ (u : StepValue). u.node) e in omega arith) ];
        each = λ t i. elim (In-push ss s t i) [ inl j ↦ d.each t j | inr e ↦ subst (λ u. IsStepOf g k label u) (sym e) of ];
        why = λ t i. elim (In-push ss s t i) [
          | inl j ↦ want_more begin ss (ss ++ s ∷ []) t.node part (d.why t j)
          | inr e ↦ subst (λ m. IsWanted begin (ss ++ s ∷ []) m) (sym (ap (λ (u : StepValue). u.node) e ∙ is)) (want_more begin ss (ss ++ s ∷ []) n part (d.marked n on).2)
        ];
        marked = λ m h. elim (w.only m h) [
          | inl o ↦ (let r = d.marked m o in (r.0, r.1, want_more begin ss (ss ++ s ∷ []) m part r.2))
          | inr share ↦ (
              let c : s.claim ≤ label m + 1 = shared_high g k label s m of share in
              let two : 2 ≤ s.claim = shared_two g k label s m of share in
              let one : 1 ≤ label m = omega arith in
              (high_and g k label least m one, one, steps.shared s last share))
        ];
        have = λ m l h. elim (cases_eq m n) [
          | inl e ↦ record { step = s; there = last; is = is ∙ sym e }
          | inr ne ↦ elim (w.only m h) [
            | inl o ↦ has_more ss (ss ++ s ∷ []) m part (d.have m (omega (arith, ne)) o)
            | inr share ↦ absurd (let b : m < s.node = share.below in omega arith)
          ]
        ];
        shares = λ t m i h. elim (In-push ss s t i) [
          | inl j ↦ w.kept m (d.shares t m j h)
          | inr e ↦ w.all m (subst (λ u. IsShared u m) e h)
        ];
        begun = λ a. w.kept begin (d.begun a);
      }

-- a descending list turned round ascends
ascending_push : (xs : List ℕ) (x : ℕ) → IsAscending xs → ((y : ℕ) → In xs y → y < x) → IsAscending (xs ++ x ∷ [])
ascending_push [] x up below = ((λ m i. absurd i), tt)
ascending_push (y ∷ ys) x up below = (
  (λ m i. elim (In-push ys x m i) [ inl j ↦ up.0 m j | inr e ↦ (let l : y < x = below y (inl refl) in omega arith) ]),
  ascending_push ys x up.1 (λ z i. below z (inr i)),
)

reverse_cons : {A : Type 0} (x : A) (xs : List A) → reverse (x ∷ xs) ≡ reverse xs ++ x ∷ []
reverse_cons x xs = reverse-append (x ∷ []) xs

turned_up : (ss : List StepValue) → IsDescending (map (λ (t : StepValue). t.node) ss) → IsAscending (map (λ (t : StepValue). t.node) (reverse ss))
turned_up [] down = tt
turned_up (s ∷ ss) down =
    subst (λ xs. IsAscending xs) (sym (ap (map (λ (t : StepValue). t.node)) (reverse_cons s ss) ∙ map-append (λ (t : StepValue). t.node) (reverse ss) (s ∷ [])))
    (ascending_push (map (λ (t : StepValue). t.node) (reverse ss)) s.node (turned_up ss down.1)
    (λ m i. let r = from_map (λ (t : StepValue). t.node) (reverse ss) m i in let l : r.0.node < s.node = down.0 r.0.node (In-map (λ (t : StepValue). t.node) ss r.0 (reversed_in ss r.0 r.1)) in let e : m ≡ r.0.node = r.2 in omega arith))

-- all steps, in ascending order
pub steps_turned : (g : Aig) (k : ℕ) (label : ℕ → ℕ) (begin : ℕ) (marks : List Bool) (ss : List StepValue) → AreDoneTo g k label begin (first_and g) marks ss → AreSteps g k label begin (reverse ss)
steps_turned g k label begin marks ss d = record {
  ascending = turned_up ss d.descending;
  each = λ s i. d.each s (reversed_in ss s i);
  why = λ s i. want_more begin ss (reverse ss) s.node (in_reversed ss) (d.why s (reversed_in ss s i));
  shares = λ s m i h. let on = d.shares s m (reversed_in ss s i) h in has_more ss (reverse ss) m (in_reversed ss) (d.have m (d.marked m on).0.0 on);
  begun = λ a. has_more ss (reverse ss) begin (in_reversed ss) (d.have begin a.0 (d.begun a));
}
