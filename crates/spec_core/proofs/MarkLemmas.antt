-- Marks and values after a write.
use Rattle.spec_core.proofs.Common.{◌≡◌, ℕ, ◌<◌, Bool, true, false, List, [], ◌∷◌, length, replicate, slice_set, refl, sym, ap, ◌∙◌, subst, inl, inr, ◌⊎◌, arith, cases_lt, false≢true, length-set, get_or-set_same, get_or-set_other, get_or_past, ext_get_or, length-replicate, get_or-replicate, In, same_or, xor, node_value, is_marked, IsEmpty, is_changed, with_marks, rules}

-- two tests that do not differ are equal, and the other way round
pub xor-false : (a b : Bool) → xor a b ≡ false → a ≡ b
xor-false true false e = absurd (false≢true (sym e))
xor-false false true e = absurd (false≢true (sym e))
xor-false a b e = refl

pub xor-same : (a b : Bool) → a ≡ b → xor a b ≡ false
xor-same true false e = absurd (false≢true (sym e))
xor-same false true e = absurd (false≢true e)
xor-same a b e = refl

-- a marked place is within the list
pub marked_within : (marks : List Bool) (m : ℕ) → is_marked marks m ≡ true → m < length marks
marked_within marks m h = search (rules, cases_lt, false≢true, get_or_past)

-- a set without members
pub unmarked : (marks : List Bool) (n : ℕ) → length marks ≡ n → IsEmpty marks → marks ≡ replicate n false
unmarked marks n same empty = ext_get_or false marks (replicate n false) (same ∙ sym (length-replicate n false)) (λ i l. empty.none i ∙ sym (get_or-replicate n i false false (omega arith)))

-- what is set stays set where one more place is
true_kept : (marks : List Bool) (n m : ℕ) → is_marked marks m ≡ true → is_marked (slice_set marks n true) m ≡ true
true_kept marks n m h = search (rules, same_or, slice_set, get_or-set_same, marked_within, get_or-set_other)

-- marks stay where more are set
pub marks_kept : (ns : List ℕ) (marks : List Bool) (m : ℕ) → is_marked marks m ≡ true → is_marked (with_marks marks ns) m ≡ true
marks_kept [] marks m h = h
marks_kept (n ∷ ns) marks m h = marks_kept ns (slice_set marks n true) m (true_kept marks n m h)

-- the numbers of the list are marked
pub marks_set : (ns : List ℕ) (marks : List Bool) (m : ℕ) → In ns m → m < length marks → is_marked (with_marks marks ns) m ≡ true
marks_set [] marks m i l = elim i [ ]
marks_set (n ∷ ns) marks m (inl e) l = grind (arith, marks_kept, slice_set, get_or-set_same)
marks_set (n ∷ ns) marks m (inr i) l = marks_set ns (slice_set marks n true) m i (rw (length-set marks n true) l)

-- no others are
pub marks_only : (ns : List ℕ) (marks : List Bool) (m : ℕ) → is_marked (with_marks marks ns) m ≡ true → In ns m ⊎ (is_marked marks m ≡ true)
marks_only [] marks m h = inr h
marks_only (n ∷ ns) marks m h = search (rules, slice_set, same_or, get_or-set_other, marks_only ns (slice_set marks n true) m h)

pub length-with_marks : (ns : List ℕ) (marks : List Bool) → length (with_marks marks ns) ≡ length marks
length-with_marks [] marks = refl
length-with_marks (n ∷ ns) marks = length-with_marks ns (slice_set marks n true) ∙ length-set marks n true

-- A node that had its old value gets another: it has changed, and of the other nodes those that had.
module _ (old values : List Bool) (n : ℕ) (v : Bool) (within : n < length values) (same : is_changed old values n ≡ false) (other : xor (node_value values n) v ≡ true) where
  pub changed_here : is_changed old (slice_set values n v) n ≡ true
  changed_here =
      ap (xor (node_value old n)) (get_or-set_same values n v false within)
      ∙ ap (λ b. xor b v) (xor-false (node_value old n) (node_value values n) same) ∙ other

  pub changed_other : (k : ℕ) → (k ≡ n → ⊥) → is_changed old (slice_set values n v) k ≡ is_changed old values k
  changed_other k d = ap (xor (node_value old k)) (get_or-set_other values n k v false d)

  pub changed_more : (k : ℕ) → is_changed old values k ≡ true → is_changed old (slice_set values n v) k ≡ true
  changed_more k h = changed_other k (λ e. false≢true (sym same ∙ ap (is_changed old values) (sym e) ∙ h)) ∙ h

  pub changed_back : (k : ℕ) → is_changed old (slice_set values n v) k ≡ true → (k ≡ n) ⊎ (is_changed old values k ≡ true)
  changed_back k h = elim (same_or k n) [ inl e ↦ inl e | inr d ↦ inr (sym (changed_other k d) ∙ h) ]
