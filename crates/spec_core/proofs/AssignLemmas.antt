-- Parameters get new values: a sweep begins.
use Rattle.spec_core.proofs.Common.{◌≡◌, ℕ, zero, suc, ◌+◌, ◌-◌, ◌/◌, ◌<◌, ◌≤◌, Bool, false, List, [], ◌∷◌, length, get_or, replicate, slice_set, refl, sym, ap, ◌∙◌, subst, inl, inr, arith, cases_lt, false≢true, or_from, length-set, get_or-set_same, get_or-set_other, get_or-replicate, get_or_past, length-replicate, Assign, AreAssigned, assigned, In, place_in, same_or, Pair, first_and, node_count, xor, node_value, FitsGraph, PackValue, is_marked, ReadersValue, reads_and, is_changed, is_touched, Progress, Belong, stored, with_assigned, AreMarked, IsSweeping, params_in, IsIdle, rules}
use Rattle.spec_core.proofs.MarkLemmas.{xor-same}
use Rattle.spec_core.proofs.StoreLemmas.{stored_values, Belong-stored, AreMarked-stored}

-- the values of the nodes once parameters have theirs
abbrev pub values_after : List Bool → List Assign → List Bool
values_after values [] = values
values_after values (a ∷ assigns) = values_after (slice_set values (1 + a.param) a.bit) assigns

assigned_values : (assigns : List Assign) (readers : ReadersValue) (now : Progress) → (with_assigned readers now assigns).values ≡ values_after now.values assigns
assigned_values [] readers now = refl
assigned_values (a ∷ assigns) readers now = assigned_values assigns readers (stored readers now (1 + a.param) a.bit) ∙ ap (λ vs. values_after vs assigns) (stored_values readers now (1 + a.param) a.bit)

-- the parameters have the values that they get
values_shown : (assigns : List Assign) (vs ps : List Bool) → length ps < length vs → ((k : ℕ) → k < length ps → node_value vs (1 + k) ≡ get_or ps k false)
    → (k : ℕ) → k < length ps → node_value (values_after vs assigns) (1 + k) ≡ get_or (assigned ps assigns) k false
values_shown [] vs ps room shown k l = shown k l
values_shown (a ∷ assigns) vs ps room shown k l =
    let lv : length (slice_set vs (1 + a.param) a.bit) ≡ length vs = length-set vs (1 + a.param) a.bit in
    let lp : length (slice_set ps a.param a.bit) ≡ length ps = length-set ps a.param a.bit in
    values_shown assigns (slice_set vs (1 + a.param) a.bit) (slice_set ps a.param a.bit) (omega arith) both k (omega arith)
  where
    both : (j : ℕ) → j < length (slice_set ps a.param a.bit) → node_value (slice_set vs (1 + a.param) a.bit) (1 + j) ≡ get_or (slice_set ps a.param a.bit) j false
    both j h =
        let lp : length (slice_set ps a.param a.bit) ≡ length ps = length-set ps a.param a.bit in
        elim (same_or j a.param) [
          | inl e ↦ subst (λ i. node_value (slice_set vs (1 + a.param) a.bit) (1 + i) ≡ get_or (slice_set ps a.param a.bit) i false) (sym e)
              (get_or-set_same vs (1 + a.param) a.bit false (omega arith) ∙ sym (get_or-set_same ps a.param a.bit false (omega arith)))
          | inr d ↦ get_or-set_other vs (1 + a.param) (1 + j) a.bit false (λ e. d (omega arith)) ∙ shown j (omega arith) ∙ sym (get_or-set_other ps a.param j a.bit false d)
        ]

-- no other node does
values_kept : (assigns : List Assign) (vs : List Bool) (n : ℕ) → ((a : Assign) → In assigns a → n ≡ 1 + a.param → ⊥) → node_value (values_after vs assigns) n ≡ node_value vs n
values_kept [] vs n apart = refl
values_kept (a ∷ assigns) vs n apart = values_kept assigns (slice_set vs (1 + a.param) a.bit) n (λ b i. apart b (inr i)) ∙ get_or-set_other vs (1 + a.param) n a.bit false (apart a (inl refl))

pub length-assigned : (assigns : List Assign) (ps : List Bool) → length (assigned ps assigns) ≡ length ps
length-assigned [] ps = refl
length-assigned (a ∷ assigns) ps = length-assigned assigns (slice_set ps a.param a.bit) ∙ length-set ps a.param a.bit

-- the rest of new values
AreAssigned-rest : (count : ℕ) (a : Assign) (assigns : List Assign) → AreAssigned count (a ∷ assigns) → AreAssigned count assigns
AreAssigned-rest count a assigns h = record {
  below = λ b i. h.below b (inr i);
  once = λ i j b c ib jc e. let s : suc i ≡ suc j = h.once (suc i) (suc j) b c ib jc e in omega arith;
}

-- no later one is for the first one's parameter
later_apart : (count : ℕ) (a : Assign) (assigns : List Assign) → AreAssigned count (a ∷ assigns) → (b : Assign) → In assigns b → b.param ≡ a.param → ⊥
later_apart count a assigns h b i e =
    let at = place_in assigns b i in
    omega (arith, h.once 0 (suc at.0) a b refl at.1 (sym e))

-- the marks are right once parameters have their values
module _ (pack : PackValue) (readers : ReadersValue) (old : List Bool) where
  pub AreMarked-assigned : (assigns : List Assign) (now : Progress) → Belong pack readers now → AreAssigned (length pack.graph.kinds) assigns → ((a : Assign) → In assigns a → is_changed old now.values (1 + a.param) ≡ false)
      → AreMarked pack old now (first_and pack.graph) → AreMarked pack old (with_assigned readers now assigns) (first_and pack.graph)
  AreMarked-assigned [] now b are same marks = marks
  AreMarked-assigned (a ∷ assigns) now b are same marks =
      let below : a.param < length pack.graph.kinds = are.below a (inl refl) in
      AreMarked-assigned assigns (stored readers now (1 + a.param) a.bit) (Belong-stored pack readers now (1 + a.param) a.bit (omega arith) b) (AreAssigned-rest (length pack.graph.kinds) a assigns are)
      (λ c i. ap (λ vs. is_changed old vs (1 + c.param)) (stored_values readers now (1 + a.param) a.bit)
      ∙ ap (xor (node_value old (1 + c.param))) (get_or-set_other now.values (1 + a.param) (1 + c.param) a.bit false (λ e. later_apart (length pack.graph.kinds) a assigns are c i (omega arith)))
      ∙ same c (inr i))
      (AreMarked-stored pack readers old now (1 + a.param) a.bit (first_and pack.graph) b (omega arith) (same a (inl refl)) (λ m r. (reads_and pack.graph (1 + a.param) m r).0) marks)

-- no mark is set where none of a list is
pub none_marked : (n i : ℕ) → is_marked (replicate n false) i ≡ false
none_marked n i = search (rules, cases_lt, get_or-replicate, get_or_past, length-replicate)

untouched : (old : List Bool) (pair : Pair) → is_touched old old pair ≡ false
untouched old pair = or_from (is_changed old old (pair.x.0 / 2)) (is_changed old old (pair.y.0 / 2)) (xor-same (node_value old (pair.x.0 / 2)) _ refl) (xor-same (node_value old (pair.y.0 / 2)) _ refl)

-- between events the marks are right, since nothing has changed
AreMarked-idle : (pack : PackValue) (now : Progress) (point : ℕ) → IsIdle pack now → AreMarked pack now.values now point
AreMarked-idle pack now point idle = search (rules, false≢true, untouched, none_marked, xor-same)

-- a sweep begins
module _ (pack : PackValue) (readers : ReadersValue) (now : Progress) (assigns : List Assign) (new : List Bool) (start : ℕ)
    (b : Belong pack readers now) (idle : IsIdle pack now) (are : AreAssigned (length pack.graph.kinds) assigns)
    (fits : FitsGraph pack.graph (assigned (params_in pack now.values) assigns) new) where
  count : length (params_in pack now.values) ≡ length pack.graph.kinds
  count = idle.fits.given

  old_params : (k : ℕ) → k < length (params_in pack now.values) → node_value now.values (1 + k) ≡ get_or (params_in pack now.values) k false
  old_params k l = grind arith

  below : (n : ℕ) → n < first_and pack.graph → node_value (values_after now.values assigns) n ≡ node_value new n
  below zero l = values_kept assigns now.values 0 (λ a i e. omega arith) ∙ idle.fits.constant ∙ sym fits.constant
  below (suc k) l =
      let e : 1 + k ≡ suc k = omega arith in
      let d : suc k - 1 ≡ k = omega arith in
      grind (arith, values_after, values_shown, old_params)

  above : (n : ℕ) → first_and pack.graph ≤ n → node_value (values_after now.values assigns) n ≡ node_value now.values n
  above n l = values_kept assigns now.values n (λ a i e. let p : a.param < length pack.graph.kinds = are.below a i in omega arith)

  pub sweep_begins : IsSweeping pack now.values new (with_assigned readers now assigns) start start
  sweep_begins = record {
    point = first_and pack.graph;
    from = omega arith;
    below = λ n l. ap (λ vs. node_value vs n) (assigned_values assigns readers now) ∙ below n l;
    above = λ n l. ap (λ vs. node_value vs n) (assigned_values assigns readers now) ∙ above n l;
    marks = AreMarked-assigned pack readers now.values assigns now b are (λ a i. xor-same (node_value now.values (1 + a.param)) _ refl) (AreMarked-idle pack now (first_and pack.graph) idle);
    few = omega arith;
  }
