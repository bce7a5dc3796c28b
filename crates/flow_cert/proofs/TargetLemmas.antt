-- The depth that roots need, root by root.
use Rattle.flow_cert.proofs.Common.{◌≡◌, ℕ, ◌+◌, ◌/◌, ◌%◌, ◌<◌, ◌≤◌, List, [], ◌∷◌, ◌++◌, take, length, get_or, refl, sym, ap, ◌∙◌, subst, inl, inr, arith, Aig, IsAnd, IsSource, Regular, lits_of, In, Needs, In-append, In-map, In-get_or, map-append, take_more, IsFirstToNeed}
use Rattle.aig_core.specs.declared.lit.Lit.{Lit}
use Rattle.cert_check.specs.Valid as valid
use Rattle.flow_cert.specs.Target.{IsLevel, HasBegin, nothing, node, complemented, IsTarget, IsDeeper, no_more, at_node, at_source}

-- a literal of a list
pub in_lits : (ls : List Lit) (i : ℕ) (d : Lit) → i < length ls → In (lits_of ls) (get_or ls i d).0
in_lits ls i d h = In-map (λ (l : Lit). l.0) ls (get_or ls i d) (In-get_or ls i d h)

-- the first literals, with one more
pub lits_more : (ls : List Lit) (i : ℕ) (d : Lit) → i < length ls → lits_of (take (i + 1) ls) ≡ lits_of (take i ls) ++ (get_or ls i d).0 ∷ []
lits_more ls i d h = ap lits_of (take_more ls i d h) ∙ map-append (λ (l : Lit). l.0) (take i ls) (get_or ls i d ∷ [])

-- the first root that needs a depth is one of the roots, and there is one such at most
pub first_in : (g : Aig) (label : ℕ → ℕ) (d : ℕ) (roots : List ℕ) (l : ℕ) → IsFirstToNeed g label d roots l → In roots l
first_in g label d [] l f = absurd f
first_in g label d (r ∷ rs) l (inl f) = inl f.1
first_in g label d (r ∷ rs) l (inr f) = inr (first_in g label d rs l f.1)

pub first_once : (g : Aig) (label : ℕ → ℕ) (d : ℕ) (roots : List ℕ) (l m : ℕ) → IsFirstToNeed g label d roots l → IsFirstToNeed g label d roots m → l ≡ m
first_once g label d [] l m e f = absurd e
first_once g label d (r ∷ rs) l m (inl e) (inl f) = e.1 ∙ sym f.1
first_once g label d (r ∷ rs) l m (inl e) (inr f) = absurd (f.0 e.0)
first_once g label d (r ∷ rs) l m (inr e) (inl f) = absurd (e.0 f.0)
first_once g label d (r ∷ rs) l m (inr e) (inr f) = first_once g label d rs l m e.1 f.1

-- one more root comes behind it, or is it where none of the others needs the depth
first_more : (g : Aig) (label : ℕ → ℕ) (d : ℕ) (roots : List ℕ) (x l : ℕ) → IsFirstToNeed g label d roots l → IsFirstToNeed g label d (roots ++ x ∷ []) l
first_more g label d [] x l f = absurd f
first_more g label d (r ∷ rs) x l (inl f) = inl f
first_more g label d (r ∷ rs) x l (inr f) = inr (f.0, first_more g label d rs x l f.1)

first_last : (g : Aig) (label : ℕ → ℕ) (d : ℕ) (roots : List ℕ) (x : ℕ) → ((r : ℕ) → In roots r → Needs g label d r → ⊥) → Needs g label d x → IsFirstToNeed g label d (roots ++ x ∷ []) x
first_last g label d [] x none n = inl (n, refl)
first_last g label d (r ∷ rs) x none n = inr (none r (inl refl), first_last g label d rs x (λ y i. none y (inr i)) n)

begin_more : (g : Aig) (label : ℕ → ℕ) (roots : List ℕ) (x depth begin : ℕ) → HasBegin g label roots depth begin → HasBegin g label (roots ++ x ∷ []) depth begin
begin_more g label roots x depth begin (nothing e f) = nothing e f
begin_more g label roots x depth begin (node l i a e f p) = node l (first_more g label depth roots x l i) a e f p
begin_more g label roots x depth begin (complemented l i s o e f) = complemented l (first_more g label depth roots x l i) s o e f

module _ (g : Aig) (label : ℕ → ℕ) (roots : List ℕ) (x depth begin : ℕ) (t : IsTarget g label roots depth begin) where
  -- the old roots need no more than a greater depth, and the new one needs no more than its level
  both : (r d : ℕ) → IsLevel g label x r → depth ≤ d → r ≤ d → (b : ℕ) → HasBegin g label (roots ++ x ∷ []) d b → IsTarget g label (roots ++ x ∷ []) d b
  both r d v le re b reached = record {
    complemented = λ l i s o. elim (In-append roots (x ∷ []) l i) [
      | inl j ↦ (let a : 1 ≤ depth = t.complemented l j s o in omega arith)
      | inr j ↦ elim j [ inl e ↦ (let a : 1 ≤ r = v.complemented (subst (λ y. IsSource g Regular (y / 2)) e s) (subst (λ y. y % 2 ≡ 1) e o) in omega arith) | inr f ↦ absurd f ]
    ];
    nodes = λ l i a. elim (In-append roots (x ∷ []) l i) [
      | inl j ↦ (let b : label (l / 2) ≤ depth = t.nodes l j a in omega arith)
      | inr j ↦ elim j [ inl e ↦ (let b : label (x / 2) ≡ r = v.node (subst (λ y. IsAnd g (y / 2)) e a) in let c : label (l / 2) ≡ label (x / 2) = ap (λ y. label (y / 2)) e in omega arith) | inr f ↦ absurd f ]
    ];
    reached = reached;
  }

  -- no old root needs a greater depth
  none_needs : (d : ℕ) → depth < d → (r : ℕ) → In roots r → Needs g label d r → ⊥
  none_needs d lt r i (valid.node and le) = let b : label (r / 2) ≤ depth = t.nodes r i and in absurd (omega arith)
  none_needs d lt r i (valid.complemented e s o) = let b : 1 ≤ depth = t.complemented r i s o in absurd (omega arith)

  first_deeper : (d : ℕ) → depth < d → Needs g label d x → IsFirstToNeed g label d (roots ++ x ∷ []) x
  first_deeper d lt n = first_last g label d roots x (none_needs d lt) n

  -- one more root
  pub target_more : (depth' begin' : ℕ) → IsDeeper g label x depth begin depth' begin' → IsTarget g label (roots ++ x ∷ []) depth' begin'
  target_more depth' begin' (no_more r v le d b) = rw (d, b) (both r depth v (omega arith) le begin (begin_more g label roots x depth begin t.reached))
  target_more depth' begin' (at_node v lt and b) =
      rw b (both depth' depth' v (omega arith) (omega arith) (x / 2) (node x (first_deeper depth' lt (valid.node and (let e : label (x / 2) ≡ depth' = v.node and in omega arith))) and refl (sym (v.node and)) (omega arith)))
  target_more depth' begin' (at_source v lt not b) =
      rw b (both depth' depth' v (omega arith) (omega arith) 0 (elim v.needs [
        | inl z ↦ absurd (omega arith)
        | inr (inl a) ↦ absurd (not a)
        | inr (inr s) ↦ complemented x (first_deeper depth' lt (valid.complemented s.2 s.0 s.1)) s.0 s.1 s.2 refl
      ]))
