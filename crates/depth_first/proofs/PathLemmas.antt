-- The nodes of a stack.
use Rattle.depth_first.proofs.Common.{◌≡◌, ℕ, ◌+◌, ◌<◌, ◌≤◌, eqb, eqb-true, eq-eqb, List, [], ◌∷◌, ◌++◌, length, take, reverse, get_or, refl, sym, ap, ◌∙◌, arith, false_from_ne_true, reverse-append, take_more, take-length, Frame, path_of, from_node}

pub path_of-append : (fs gs : List Frame) → path_of (fs ++ gs) ≡ path_of fs ++ path_of gs
path_of-append [] gs = refl
path_of-append (f ∷ fs) gs = ap (λ ns. f.node ∷ ns) (path_of-append fs gs)

pub path_of-reverse : (fs : List Frame) → path_of (reverse fs) ≡ reverse (path_of fs)
path_of-reverse [] = refl
path_of-reverse (f ∷ fs) =
    ap path_of (reverse-append (f ∷ []) fs) ∙ path_of-append (reverse fs) (f ∷ []) ∙ ap (λ ns. ns ++ f.node ∷ []) (path_of-reverse fs) ∙ sym (reverse-append (f.node ∷ []) (path_of fs))

-- one more frame is read, and all are
pub path_more : (fs : List Frame) (i : ℕ) (d : Frame) (ns : List ℕ) → i < length fs → ns ≡ path_of (take i fs) → ns ++ (get_or fs i d).node ∷ [] ≡ path_of (take (i + 1) fs)
path_more fs i d ns l e = ap (λ x. x ++ (get_or fs i d).node ∷ []) e ∙ sym (path_of-append (take i fs) (get_or fs i d ∷ [])) ∙ sym (ap path_of (take_more fs i d l))

pub path_all : (fs stack : List Frame) (i : ℕ) (ns : List ℕ) → i ≤ length fs → length fs ≤ i → ns ≡ path_of (take i fs) → reverse fs ≡ stack → reverse ns ≡ path_of stack
path_all fs stack i ns a b e r =
    ap reverse (e ∙ ap (λ k. path_of (take k fs)) (omega arith) ∙ ap path_of (take-length fs)) ∙ sym (path_of-reverse fs) ∙ ap path_of r

-- the same of the path from a node on
module _ (fs : List Frame) (i : ℕ) (d : Frame) (n : ℕ) (l : i < length fs) where
  from_more : from_node n (reverse (path_of (take (i + 1) fs))) ≡ from_node n ((get_or fs i d).node ∷ reverse (path_of (take i fs)))
  from_more = ap (λ ns. from_node n (reverse ns)) (sym (path_more fs i d (path_of (take i fs)) l refl)) ∙ ap (from_node n) (reverse-append (path_of (take i fs)) ((get_or fs i d).node ∷ []))

  pub from_here : (ns : List ℕ) → n ≡ (get_or fs i d).node → ns ≡ [] → ns ++ (get_or fs i d).node ∷ [] ≡ from_node n (reverse (path_of (take (i + 1) fs)))
  from_here ns q e = let t = eq-eqb n (get_or fs i d).node q in ap (λ x. x ++ (get_or fs i d).node ∷ []) e ∙ sym (from_more ∙ rw t refl)

  pub from_before : (ns : List ℕ) → (n ≡ (get_or fs i d).node → ⊥) → ns ≡ from_node n (reverse (path_of (take i fs))) → ns ++ (get_or fs i d).node ∷ [] ≡ from_node n (reverse (path_of (take (i + 1) fs)))
  from_before ns o e =
      ap (λ x. x ++ (get_or fs i d).node ∷ []) e ∙ sym (from_more ∙ rw (false_from_ne_true (eqb n (get_or fs i d).node) (λ y. o (eqb-true n (get_or fs i d).node y))) refl)
