-- How many places there are from the first mark on: fewer after a visit, which marks only later ones.
use Rattle.spec_core.proofs.Common.{◌≡◌, ℕ, zero, suc, ◌+◌, ◌<◌, ◌≤◌, Bool, true, false, List, [], ◌∷◌, length, slice_set, Some, sym, ap, ◌∙◌, inl, inr, arith, cases_Bool, cases_lt, false≢true, get_or-set_same, get_or-set_other, choose, same_or, node_count, xor, node_value, PackValue, is_marked, IsLeast, ReadersValue, nodes_of, reads_above, Progress, Belong, stored, rules}
use Rattle.spec_core.proofs.MarkLemmas.{marks_only}
use Rattle.spec_core.proofs.StoreLemmas.{Belong-stored, Belong-without}

abbrev pub places_left : List Bool → ℕ
places_left [] = 0
places_left (true ∷ bs) = suc (length bs)
places_left (false ∷ bs) = places_left bs

left_most : (marks : List Bool) → places_left marks ≤ length marks
left_most (false ∷ bs) = let l : places_left bs ≤ length bs = left_most bs in omega arith
left_most marks = omega arith

left_least : (marks : List Bool) (n : ℕ) → n < length marks → is_marked marks n ≡ true → ((k : ℕ) → k < n → is_marked marks k ≡ false) → places_left marks + n ≡ length marks
left_least [] n l h none = absurd (omega arith)
left_least (true ∷ bs) zero l h none = omega arith
left_least (false ∷ bs) zero l h none = absurd (false≢true h)
left_least (true ∷ bs) (suc n) l h none = absurd (false≢true (sym (none 0 (omega arith))))
left_least (false ∷ bs) (suc n) l h none = let e : places_left bs + n ≡ length bs = left_least bs n (omega arith) h (λ k m. none (suc k) (omega arith)) in omega arith

left_above : (marks : List Bool) (n : ℕ) → n ≤ length marks → ((k : ℕ) → k < n → is_marked marks k ≡ false) → places_left marks + n ≤ length marks
left_above marks zero l none = let m : places_left marks ≤ length marks = left_most marks in omega arith
left_above [] (suc n) l none = absurd (omega arith)
left_above (true ∷ bs) (suc n) l none = absurd (false≢true (sym (none 0 (omega arith))))
left_above (false ∷ bs) (suc n) l none = let e : places_left bs + n ≤ length bs = left_above bs n (omega arith) (λ k m. none (suc k) (omega arith)) in omega arith

-- the least marked node is taken and gets a value
module _ (pack : PackValue) (readers : ReadersValue) (now : Progress) (n : ℕ) (v : Bool) (b : Belong pack readers now) (least : IsLeast now.nodes n) where
  inside : n < node_count pack.graph
  inside = let l : length now.nodes ≡ node_count pack.graph = b.nodes in let w : n < length now.nodes = least.within in omega arith

  -- a mark that stays is later
  mark_stays : (k : ℕ) → is_marked (slice_set now.nodes n false) k ≡ true → n < k
  mark_stays k h = search (rules, same_or, false≢true, get_or-set_same, slice_set, get_or-set_other, cases_lt)

  -- what is marked after it is later
  marked_later : (k : ℕ) → is_marked (stored readers (record { values = now.values; nodes = slice_set now.nodes n false; addresses = now.addresses }) n v).nodes k ≡ true → n < k
  marked_later k = grind (arith, marks_only, slice_set, reads_above, mark_stays)

  -- so fewer places are left
  pub places_fall : places_left (stored readers (record { values = now.values; nodes = slice_set now.nodes n false; addresses = now.addresses }) n v).nodes < places_left now.nodes
  places_fall =
      let w : n < length now.nodes = least.within in
      let c : length now.nodes ≡ node_count pack.graph = b.nodes in
      let after : Progress = stored readers (record { values = now.values; nodes = slice_set now.nodes n false; addresses = now.addresses }) n v in
      let d : length after.nodes ≡ node_count pack.graph = (Belong-stored pack readers _ n v inside (Belong-without pack readers now (Some n) b)).nodes in
      let e : places_left now.nodes + n ≡ length now.nodes = left_least now.nodes n least.within least.marked least.least in
      let f : places_left after.nodes + (n + 1) ≤ length after.nodes = left_above after.nodes (n + 1) (omega arith) (λ k l. elim (cases_Bool (is_marked after.nodes k)) [
        | inl t ↦ absurd (let u : n < k = marked_later k t in omega arith)
        | inr g ↦ g
      ]) in
      omega arith
