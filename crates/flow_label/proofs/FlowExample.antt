-- A worked example with cuts of at most two leaves: a node whose label is one more than those of its fan-ins, and a node whose low cut only
-- a flow finds.
--
-- Sources 1 to 4 are regular, 5 and 6 are parameters. 7 and 8 are products of 1 and 2, and of 3 and 4. With each parameter there is a
-- product of 7, one of 8, and the product of both: 9, 10, 11 and 12, 13, 14. 15 is the product of 11 and 14.
use Rattle.flow_label.proofs.Common.{◌≡◌, ℕ, zero, suc, ◌+◌, ◌<◌, ◌≤◌, List, [], ◌∷◌, refl, sym, subst, inl, inr, ◌⊎◌, arith, Some, none-some, same_Some, slice_get, ◌-◌, ◌*◌, CanBeLeaf, Aig, IsSource, IsNode, Regular, Parameter, Pair, In, Blocks, member, parameter, fan_ins, IsFanIn, first, second, IsPath, label_at, IsLowCut, IsHigh, paths_high}

abbrev and : ℕ → ℕ → Pair
and x y = record { x = record { 0 = 2 * x }; y = record { 0 = 2 * y } }

abbrev pub twice : Aig
twice = record {
  kinds = Regular ∷ Regular ∷ Regular ∷ Regular ∷ Parameter ∷ Parameter ∷ [];
  pairs = and 1 2 ∷ and 3 4 ∷ and 5 7 ∷ and 5 8 ∷ and 9 10 ∷ and 6 7 ∷ and 6 8 ∷ and 12 13 ∷ and 11 14 ∷ [];
  max = 9;
}

abbrev pub twice_labels : List ℕ
twice_labels = 0 ∷ 0 ∷ 0 ∷ 0 ∷ 0 ∷ 0 ∷ 0 ∷ 1 ∷ 1 ∷ 1 ∷ 1 ∷ 2 ∷ 1 ∷ 1 ∷ 2 ∷ 2 ∷ []

node : (n : ℕ) (p : Pair) → 7 ≤ n → slice_get twice.pairs (n - 7) ≡ Some p → IsNode twice p n
node n p a e = record { above = a; is = e }

source : (n : ℕ) → 1 ≤ n → slice_get twice.kinds (n - 1) ≡ Some Regular → IsSource twice Regular n
source n a e = record { above = a; is = e }

-- the low cut of 15 is 7 and 8, though its fan-ins' low cuts have four leaves together
pub flow_cut : IsLowCut twice 2 15 3 (label_at twice_labels) (7 ∷ 8 ∷ [])
flow_cut =
    let seven : Blocks twice (7 ∷ 8 ∷ []) 7 = member (inl refl) in
    let eight : Blocks twice (7 ∷ 8 ∷ []) 8 = member (inr (inl refl)) in
    let five : Blocks twice (7 ∷ 8 ∷ []) 5 = parameter (record { above = omega arith; is = refl }) in
    let six : Blocks twice (7 ∷ 8 ∷ []) 6 = parameter (record { above = omega arith; is = refl }) in
    let left : Blocks twice (7 ∷ 8 ∷ []) 11 = fan_ins (and 9 10) (node 11 (and 9 10) (omega arith) refl) (fan_ins (and 5 7) (node 9 (and 5 7) (omega arith) refl) five seven) (fan_ins (and 5 8) (node 10 (and 5 8) (omega arith) refl) five eight) in
    let right : Blocks twice (7 ∷ 8 ∷ []) 14 = fan_ins (and 12 13) (node 14 (and 12 13) (omega arith) refl) (fan_ins (and 6 7) (node 12 (and 6 7) (omega arith) refl) six seven) (fan_ins (and 6 8) (node 13 (and 6 8) (omega arith) refl) six eight) in
    record {
      cut = record {
        ascending = ((λ m i. elim i [ inl e ↦ omega arith | inr b ↦ absurd b ]), ((λ m i. absurd i), tt));
        few = omega arith;
        below = λ m i. elim i [
          | inl e ↦ subst (λ x. (x < 15) × CanBeLeaf twice x) (sym e) (omega arith, inr (omega arith, omega arith))
          | inr j ↦ elim j [ inl e ↦ subst (λ x. (x < 15) × CanBeLeaf twice x) (sym e) (omega arith, inr (omega arith, omega arith)) | inr b ↦ absurd b ]
        ];
        blocks = fan_ins (and 11 14) (node 15 (and 11 14) (omega arith) refl) left right;
      };
      low = λ m i. elim i [
        | inl e ↦ subst (λ x. label_at twice_labels x + 1 < 3) (sym e) (omega arith)
        | inr j ↦ elim j [ inl e ↦ subst (λ x. label_at twice_labels x + 1 < 3) (sym e) (omega arith) | inr b ↦ absurd b ]
      ];
    }

-- three paths to 11: only sources are low
abbrev pub three : List (List ℕ)
three = (1 ∷ 7 ∷ 9 ∷ 11 ∷ []) ∷ (2 ∷ 7 ∷ 9 ∷ 11 ∷ []) ∷ (3 ∷ 8 ∷ 10 ∷ 11 ∷ []) ∷ []

eleven_9 : IsFanIn twice 9 11
eleven_9 = first (and 9 10) (node 11 (and 9 10) (omega arith) refl) refl

eleven_10 : IsFanIn twice 10 11
eleven_10 = second (and 9 10) (node 11 (and 9 10) (omega arith) refl) refl

nine_7 : IsFanIn twice 7 9
nine_7 = second (and 5 7) (node 9 (and 5 7) (omega arith) refl) refl

ten_8 : IsFanIn twice 8 10
ten_8 = second (and 5 8) (node 10 (and 5 8) (omega arith) refl) refl

three_paths : (p : List ℕ) → In three p → IsPath twice 11 p
three_paths p (inl e) = subst (λ x. IsPath twice 11 x) (sym e) (source 1 (omega arith) refl, (first (and 1 2) (node 7 (and 1 2) (omega arith) refl) refl, (nine_7, (eleven_9, refl))))
three_paths p (inr (inl e)) = subst (λ x. IsPath twice 11 x) (sym e) (source 2 (omega arith) refl, (second (and 1 2) (node 7 (and 1 2) (omega arith) refl) refl, (nine_7, (eleven_9, refl))))
three_paths p (inr (inr (inl e))) = subst (λ x. IsPath twice 11 x) (sym e) (source 3 (omega arith) refl, (first (and 3 4) (node 8 (and 3 4) (omega arith) refl) refl, (ten_8, (eleven_10, refl))))
three_paths p (inr (inr (inr e))) = absurd e

-- a low node of a path is its source
low_of : (s a b m : ℕ) → 1 ≤ label_at twice_labels a → 1 ≤ label_at twice_labels b → In (s ∷ a ∷ b ∷ 11 ∷ []) m → (m ≡ s) ⊎ (2 ≤ label_at twice_labels m + 1)
low_of s a b m x y (inl e) = inl e
low_of s a b m x y (inr (inl e)) = inr (subst (λ z. 2 ≤ label_at twice_labels z + 1) (sym e) (omega arith))
low_of s a b m x y (inr (inr (inl e))) = inr (subst (λ z. 2 ≤ label_at twice_labels z + 1) (sym e) (omega arith))
low_of s a b m x y (inr (inr (inr (inl e)))) = inr (subst (λ z. 2 ≤ label_at twice_labels z + 1) (sym e) (omega arith))
low_of s a b m x y (inr (inr (inr (inr e)))) = absurd e

three_low : (i m : ℕ) (p : List ℕ) → slice_get three i ≡ Some p → In p m → (m ≡ suc i) ⊎ (2 ≤ label_at twice_labels m + 1)
three_low zero m p e i = low_of 1 7 9 m (omega arith) (omega arith) (subst (λ x. In x m) (sym (same_Some (1 ∷ 7 ∷ 9 ∷ 11 ∷ []) p e)) i)
three_low (suc zero) m p e i = low_of 2 7 9 m (omega arith) (omega arith) (subst (λ x. In x m) (sym (same_Some (2 ∷ 7 ∷ 9 ∷ 11 ∷ []) p e)) i)
three_low (suc (suc zero)) m p e i = low_of 3 8 10 m (omega arith) (omega arith) (subst (λ x. In x m) (sym (same_Some (3 ∷ 8 ∷ 10 ∷ 11 ∷ []) p e)) i)
three_low (suc (suc (suc i))) m p e j = absurd (none-some p e)

-- so each cut of 11 has a height of at least 2, though its fan-ins have label 1
pub raised : IsHigh twice 2 11 2 (label_at twice_labels)
raised = record {
  high = paths_high twice 2 11 2 (label_at twice_labels) three (record {
    paths = three_paths;
    apart = λ i j m p q l e f a b ne. elim (three_low i m p e a) [
      | inr h ↦ h
      | inl x ↦ elim (three_low j m q f b) [ inr h ↦ h | inl y ↦ absurd (omega arith) ]
    ];
  }) (omega arith);
}
