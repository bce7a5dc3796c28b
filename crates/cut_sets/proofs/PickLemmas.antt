-- Paths to a node that share no low node: each of its cuts has a leaf on each of them, and a low leaf is on one path only. So more paths
-- than a cut may have leaves mean that no cut of the node is low.
use Rattle.cut_sets.proofs.Common.{◌≡◌, ℕ, suc, ◌+◌, ◌<◌, ◌≤◌, List, [], ◌∷◌, Some, length, refl, sym, subst, inl, inr, arith, slice_get, cases_lt, Aig, In, place_in, Blocks, IsCut, height, IsPath, ArePathsTo}
use Rattle.list_laws.proofs.Apart.{AreApart, apart_short}
use Rattle.cut_sets.proofs.HeightLemmas.{height_member}
use Rattle.cut_sets.proofs.PathLemmas.{Meets, path_meets}

-- one leaf of a cut on each of these paths, none twice
record ArePicked (c : List ℕ) (ps : List (List ℕ)) : Type 0 where
  nodes : List ℕ
  count : length nodes ≡ length ps
  distinct : AreApart nodes
  in_cut : (x : ℕ) → In nodes x → In c x
  on_path : (x : ℕ) → In nodes x → (p : List ℕ) × In ps p × In p x

-- no two of these paths share a leaf
SharesNone : List ℕ → List (List ℕ) → Type 0
SharesNone c ps = (i j x : ℕ) (p q : List ℕ) → i < j → slice_get ps i ≡ Some p → slice_get ps j ≡ Some q → In p x → In q x → In c x → ⊥

pick : (c : List ℕ) (ps : List (List ℕ)) → SharesNone c ps → ((p : List ℕ) → In ps p → Meets c p) → ArePicked c ps
unfolding SharesNone
pick c [] apart meets = record { nodes = []; count = refl; distinct = tt; in_cut = λ x i. absurd i; on_path = λ x i. absurd i }
pick c (p ∷ ps) apart meets =
    let one : Meets c p = meets p (inl refl) in
    let rest : ArePicked c ps = pick c ps (λ i j x q r l. apart (suc i) (suc j) x q r (omega arith)) (λ q i. meets q (inr i)) in
    record {
      nodes = one.at ∷ rest.nodes;
      count = (let e : length rest.nodes ≡ length ps = rest.count in omega arith);
      distinct = (
        (λ i. let at = rest.on_path one.at i in
            apart 0 (suc (place_in ps at.0 at.1).0) one.at p at.0 (omega arith) refl (place_in ps at.0 at.1).1 one.in_list at.2 one.in_set),
        rest.distinct,
      );
      in_cut = λ x i. elim i [ inl e ↦ subst (λ y. In c y) (sym e) one.in_set | inr j ↦ rest.in_cut x j ];
      on_path = λ x i. elim i [ inl e ↦ (p, inl refl, subst (λ y. In p y) (sym e) one.in_list) | inr j ↦ (let at = rest.on_path x j in (at.0, inr at.1, at.2)) ];
    }

-- a path to a node shows that it costs something
pub path_not_free : (g : Aig) (n : ℕ) (p : List ℕ) → IsPath g n p → Blocks g [] n → ⊥
path_not_free g n p path b = (path_meets g [] n p path b).in_set

module _ (g : Aig) (k n h : ℕ) (label : ℕ → ℕ) (ps : List (List ℕ)) (are : ArePathsTo g n h label ps) (count : k < length ps) where
  -- a cut lower than h has a leaf of its own on each path
  low_cut_picks : (c : List ℕ) → IsCut g k n c → height label c < h → ⊥
  unfolding SharesNone
  low_cut_picks c cut low =
      let shares : SharesNone c ps = (λ i j x p q l at next a b leaf.
      let d : label x + 1 ≤ height label c = height_member label c x leaf in
      let e : h ≤ label x + 1 = are.apart i j x p q l at next a b (λ same. let s : x < n = (cut.below x leaf).0 in let t : x ≡ n = same in absurd (omega arith)) in
      absurd (omega arith)) in
      let r : ArePicked c ps = pick c ps shares (λ p i. path_meets g c n p (are.paths p i) cut.blocks) in
      let l : length r.nodes ≤ length c = apart_short r.nodes c r.distinct r.in_cut in
      let f : length c ≤ k = cut.few in
      let e : length r.nodes ≡ length ps = r.count in
      absurd (omega arith)

  -- More than k paths that share no node of a label below h - 1: no cut of at most k leaves is lower than h.
  pub paths_high : (c : List ℕ) → IsCut g k n c → h ≤ height label c
  paths_high c cut = elim (cases_lt (height label c) h) [ inl l ↦ absurd (low_cut_picks c cut l) | inr l ↦ l ]
