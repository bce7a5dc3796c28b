-- The candidates of a node: the unions, and the low cut if none of them is as low as the label.
use Rattle.bounded_cuts.proofs.Common.{◌≡◌, ℕ, ◌<◌, ◌≤◌, List, [], ◌∷◌, ◌++◌, sym, ap, subst, ◌∙◌, arith, In, In-map, from_map, Candidate, Worth, cuts_of, AddsLow, as_low, none_low, ArePricedBy, height, label_at, label_in, height_same, WithLow, there, missing, unions}

pub none_priced : (ws : List Worth) (cs : List Candidate) → cs ≡ [] → ArePricedBy ws cs
none_priced ws cs e c m = absurd (subst (λ (l : List Candidate). In l c) e m)

-- what unions were appended to a cleared list
pub are_unions : (k : ℕ) (cleared all : List Candidate) (xs' ys' xs ys : List (List ℕ)) → cleared ≡ [] → xs' ≡ xs → ys' ≡ ys → cuts_of all ≡ cuts_of cleared ++ unions k xs' ys' → cuts_of all ≡ unions k xs ys
are_unions k cleared all xs' ys' xs ys e ex ey is = is ∙ ap (λ (l : List Candidate). cuts_of l ++ unions k xs' ys') e ∙ ap (λ (l : List (List ℕ)). unions k l ys') ex ∙ ap (unions k xs) ey

-- candidates have their heights if all their leaves count the labels that they have
pub heights_are : (labels : List ℕ) (ws : List Worth) (n : ℕ) (all : List Candidate) (us : List (List ℕ)) → cuts_of all ≡ us → ((m : ℕ) → m < n → label_in ws m ≡ label_at labels m) → ((c : List ℕ) (m : ℕ) → In us c → In c m → m < n) → ArePricedBy ws all → (c : Candidate) → In all c → c.height ≡ height (label_at labels) c.cut
heights_are labels ws n all us is known below priced c i =
    let there : In us c.cut = subst (λ (cs : List (List ℕ)). In cs c.cut) is (In-map (λ (d : Candidate). d.cut) all c i) in
    (priced c i).height_is ∙ height_same (label_in ws) (label_at labels) c.cut (λ m j. known m (below c.cut m there j))

-- with the low cut behind them if none is as low as the label
pub with_low : (labels : List ℕ) (r : ℕ) (low : List ℕ) (all new : List Candidate) (us : List (List ℕ)) → cuts_of all ≡ us → ((c : Candidate) → In all c → c.height ≡ height (label_at labels) c.cut) → AddsLow r low all new → WithLow (label_at labels) r low us (cuts_of new)
with_low labels r low all new us is heights (as_low c m l e) =
    there (c.cut, subst (λ (cs : List (List ℕ)). In cs c.cut) is (In-map (λ (d : Candidate). d.cut) all c m), subst (λ (h : ℕ). h ≤ r) (heights c m) l) (ap cuts_of e ∙ is)
with_low labels r low all new us is heights (none_low none e) = grind (arith, from_map)
