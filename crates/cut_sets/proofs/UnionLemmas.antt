-- The union that the code makes is the union of the two lists, of which there is one.
use Rattle.cut_sets.proofs.Common.{◌≡◌, ℕ, ◌<◌, ◌≤◌, List, length, Option, Some, None, MatchOption, IfSome, IfNone, sym, subst, inl, inr, Within, IsAscending, union, IsUnion}
use Rattle.cut_sets.proofs.SetLemmas.{In-union, union_left, union_right, IsAscending-union}

pub IsUnion-union : (a b : List ℕ) → IsAscending b → IsUnion a b (union a b)
IsUnion-union a b up = record { ascending = IsAscending-union a b up; only = In-union a b; left = union_left a b; right = union_right a b }

part_of : (a b c d : List ℕ) → IsUnion a b c → IsUnion a b d → Within c d
part_of a b c d is is' n h = elim (is.only n h) [ inl i ↦ is'.left n i | inr i ↦ is'.right n i ]

-- what the union that the code makes is, where it has room and where it has none
pub merge_some : (a b : List ℕ) (k : ℕ) (o : Option (List ℕ)) → IsAscending b → MatchOption o (k < length (union a b)) (λ c. (c ≡ union a b) × (length c ≤ k)) → IfSome o (λ c. IsUnion a b c × (length c ≤ k))
merge_some a b k None up m = tt
merge_some a b k (Some c) up m = (subst (λ s. IsUnion a b s) (sym m.0) (IsUnion-union a b up), m.1)

pub merge_none : (a b : List ℕ) (k : ℕ) (o : Option (List ℕ)) → IsAscending b → MatchOption o (k < length (union a b)) (λ c. (c ≡ union a b) × (length c ≤ k)) → IfNone o ((c : List ℕ) × IsUnion a b c × (k < length c))
merge_none a b k None up m = (union a b, IsUnion-union a b up, m)
merge_none a b k (Some c) up m = tt
