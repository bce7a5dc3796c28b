-- The paths of a step, one by one.
use Rattle.cert_check.proofs.Common.{◌≡◌, ℕ, zero, suc, ◌+◌, ◌<◌, ◌≤◌, List, [], ◌∷◌, ◌++◌, take, drop, length, get_or, Some, refl, sym, ap, ◌∙◌, subst, inl, inr, arith, slice_get, ◌≢◌, cases_lt, take_more, take_all, none-some, same_Some, slice_get_within, slice_get_read, Aig, node_count, In, drop_at, In-push, PathValue, StepValue, IsPath, path_count, IsJustified, PathsFault, IsPathTaken, IsPathFault, CertErr, rules}
use Rattle.cert_check.proofs.FaultLemmas.{nodes_met}
use Rattle.cert_check.proofs.StampLemmas.{AreStampsOf, stamps_more, all_stand, path_stops}

-- an element before a place is one of the elements before it
pub get_taken : {A : Type 0} (xs : List A) (i j : ℕ) (x : A) → i < j → slice_get xs i ≡ Some x → In (take j xs) x
get_taken [] i j x l e = absurd (none-some x e)
get_taken (y ∷ xs) i zero x l e = absurd (omega arith)
get_taken (y ∷ xs) zero (suc j) x l e = inl (sym (same_Some y x e))
get_taken (y ∷ xs) (suc i) (suc j) x l e = inr (get_taken xs i j x (omega arith) e)

-- the paths before a place are taken
pub record AreTaken (g : Aig) (claims : List ℕ) (s : StepValue) (at : ℕ) (marks : List ℕ) : Type 0 where
  pub size : length marks ≡ node_count g
  pub paths : (p : PathValue) → In (take at s.paths) p → IsPath g s.node p.nodes
  pub apart : (i j m : ℕ) (p q : PathValue) → i < j → j < at → slice_get s.paths i ≡ Some p → slice_get s.paths j ≡ Some q → In p.nodes m → In q.nodes m → m ≢ s.node → s.claim ≤ get_or claims m 0 + 1
  pub stamps : AreStampsOf s.node (take at s.paths) marks
  pub skips : (e : CertErr) → PathsFault g (λ x. get_or claims x 0) s (take at s.paths) (drop at s.paths) ⊥ e → PathsFault g (λ x. get_or claims x 0) s [] s.paths ⊥ e

module _ (g : Aig) (claims : List ℕ) (s : StepValue) (at : ℕ) (stamps : List ℕ) (taken : AreTaken g claims s at stamps) (p : PathValue) (within : at < length s.paths) (item : p ≡ get_or s.paths at p) where
  here : slice_get s.paths at ≡ Some p
  here = slice_get_read s.paths (length s.paths) at p refl within item

  more : take (at + 1) s.paths ≡ take at s.paths ++ p ∷ []
  more = take_more s.paths at p within ∙ ap (λ x. take at s.paths ++ x ∷ []) (sym item)

  rest : drop at s.paths ≡ p ∷ drop (at + 1) s.paths
  rest = drop_at s.paths at p within item

  -- a fault of the next path is one of the step
  pub next_stops : (e : CertErr) → IsPathFault g claims s p stamps e → PathsFault g (λ x. get_or claims x 0) s [] s.paths ⊥ e
  next_stops e f = taken.skips e (subst (λ ps. PathsFault g (λ x. get_or claims x 0) s (take at s.paths) ps ⊥ e) (sym rest)
      (path_stops claims s (take at s.paths) stamps taken.stamps g p (drop (at + 1) s.paths) e f))

  -- or it is taken too
  pub next_taken : (new : List ℕ) → IsPathTaken g claims s p stamps new → AreTaken g claims s (at + 1) new
  next_taken new one = record {
    size = one.stamps.size ∙ taken.size;
    paths = λ q i. elim (In-push (take at s.paths) p q (subst (λ ps. In ps q) more i)) [ inl o ↦ taken.paths q o | inr e ↦ subst (λ (r : PathValue). IsPath g s.node r.nodes) (sym e) one.path ];
    apart = λ i j m q r l k e f a b other. elim (cases_lt j at) [
      | inl old ↦ taken.apart i j m q r l old e f a b other
      | inr new ↦ (
          let is : p ≡ r = same_Some p r (sym here ∙ subst (λ x. slice_get s.paths x ≡ Some r) (omega arith) f) in
          all_stand claims s (take at s.paths) stamps taken.stamps p.nodes one.no_clash m (subst (λ (x : PathValue). In x.nodes m) (sym is) b) q (get_taken s.paths i at q (omega arith) e) a other)
    ];
    stamps = subst (λ ps. AreStampsOf s.node ps new) (sym more) (stamps_more s.node (take at s.paths) p stamps new taken.stamps one.stamps);
    skips = λ e f. grind (arith, rest, nodes_met, all_stand, more);
  }

-- all paths are taken
pub all_taken : (g : Aig) (k : ℕ) (claims : List ℕ) (s : StepValue) (at : ℕ) (stamps : List ℕ) → length s.paths ≡ path_count k s.claim → AreTaken g claims s at stamps → length s.paths ≤ at → IsJustified g k (λ m. get_or claims m 0) s
all_taken g k claims s at stamps count taken past = search (rules, take_all, slice_get_within)
