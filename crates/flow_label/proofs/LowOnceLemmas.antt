-- A graph has one low cut for each node.
use Rattle.flow_label.proofs.Common.{◌≡◌, ℕ, zero, suc, ◌+◌, ◌/◌, ◌<◌, ◌≤◌, List, length, refl, sym, ◌∙◌, subst, inl, inr, arith, cases_lt, ap, max, Aig, AreNormal, first_and, node_count, IsAnd, Pair, first, second, union, same_pair, same_within, least_heights_once}
use Rattle.std.proofs.Math.Path.{fun_ext}
use Rattle.flow_label.specs.Lows.{AreEndsOf, IsJoin, IsLowOf, fan_ins, joined, ends, nearest, AreLowsOf, HasOneLow, HasLow}
use Rattle.flow_label.specs.Parts.{IsOwnPart, live, free, IsLowPart, own, low, IsGreatest, IsFanInCut}
use Rattle.flow_label.proofs.GraphLemmas.{fan_in_below}
use Rattle.flow_label.proofs.NearestOnceLemmas.{nearest_once}

module _ (g : Aig) (normal : AreNormal (first_and g) g.pairs) where
  module _ (label : ℕ → ℕ) where
    own_once : (m : ℕ) (c d : List ℕ) → IsOwnPart g label m c → IsOwnPart g label m d → c ≡ d
    own_once m c d (live l e) (live r f) = e ∙ sym f
    own_once m c d (live l e) (free r f) = absurd (r l)
    own_once m c d (free l e) (live r f) = absurd (l r)
    own_once m c d (free l e) (free r f) = e ∙ sym f

    ends_once : (n p : ℕ) (c d : List ℕ) → AreEndsOf g label n p c → AreEndsOf g label n p d → c ≡ d
    ends_once n p c d a b = same_within c d a.ascending b.ascending (λ u i. b.all u (a.only u i)) (λ u i. a.all u (b.only u i))

    fan_ins_once : (n : ℕ) (c d : List ℕ) → IsFanInCut g label n c → IsFanInCut g label n d → c ≡ d
    fan_ins_once n c d a b =
        let same : b.pair ≡ a.pair = same_pair g b.pair a.pair n b.node a.node in
        let x : a.x ≡ b.x = own_once (a.pair.x.0 / 2) a.x b.x a.x_is (subst (λ (q : Pair). IsOwnPart g label (q.x.0 / 2) b.x) same b.x_is) in
        let y : a.y ≡ b.y = own_once (a.pair.y.0 / 2) a.y b.y a.y_is (subst (λ (q : Pair). IsOwnPart g label (q.y.0 / 2) b.y) same b.y_is) in
        a.is ∙ (ap (λ z. union z a.y) x ∙ (ap (λ z. union b.x z) y ∙ sym b.is))

    greatest_once : (n p q : ℕ) → IsGreatest g label n p → IsGreatest g label n q → p ≡ q
    greatest_once n p q a b = a.is ∙ (ap (λ (r : Pair). max (label (r.x.0 / 2)) (label (r.y.0 / 2))) (same_pair g a.pair b.pair n a.node b.node) ∙ sym b.is)

    module _ (k : ℕ) (lows rest : ℕ → List ℕ) where
      part_once : (p m : ℕ) (c d : List ℕ) → lows m ≡ rest m → IsLowPart g label lows p m c → IsLowPart g label rest p m d → c ≡ d
      part_once p m c d same (own l o) (own r q) = own_once m c d o q
      part_once p m c d same (own l o) (low r q) = absurd (omega arith)
      part_once p m c d same (low l o) (own r q) = absurd (omega arith)
      part_once p m c d same (low l o) (low r q) = o ∙ (same ∙ sym q)

      module _ (n : ℕ) (same : (m : ℕ) → m < n → lows m ≡ rest m) where
        join_once : (p : ℕ) (c d : List ℕ) → IsJoin g label lows n p c → IsJoin g label rest n p d → c ≡ d
        join_once p c d a b =
            let q : b.pair ≡ a.pair = same_pair g b.pair a.pair n b.node a.node in
            let x_low : lows (a.pair.x.0 / 2) ≡ rest (a.pair.x.0 / 2) = same (a.pair.x.0 / 2) (fan_in_below g (a.pair.x.0 / 2) n normal (first a.pair a.node refl)) in
            let y_low : lows (a.pair.y.0 / 2) ≡ rest (a.pair.y.0 / 2) = same (a.pair.y.0 / 2) (fan_in_below g (a.pair.y.0 / 2) n normal (second a.pair a.node refl)) in
            let x : a.x ≡ b.x = part_once p (a.pair.x.0 / 2) a.x b.x x_low a.x_is (subst (λ (r : Pair). IsLowPart g label rest p (r.x.0 / 2) b.x) q b.x_is) in
            let y : a.y ≡ b.y = part_once p (a.pair.y.0 / 2) a.y b.y y_low a.y_is (subst (λ (r : Pair). IsLowPart g label rest p (r.y.0 / 2) b.y) q b.y_is) in
            a.is ∙ (ap (λ z. union z a.y) x ∙ (ap (λ z. union b.x z) y ∙ sym b.is))

        of_once : (p : ℕ) (c d : List ℕ) → IsLowOf g k label lows n p c → IsLowOf g k label rest n p d → c ≡ d
        of_once p c d (fan_ins a b) (fan_ins e f) = fan_ins_once n c d b f
        of_once p c d (fan_ins a b) (joined e s j l) = let z : p ≡ 0 = a e in absurd (omega arith)
        of_once p c d (fan_ins a b) (ends e s w f l) = let z : p ≡ 0 = a e in absurd (omega arith)
        of_once p c d (fan_ins a b) (nearest e s w m f) = let z : p ≡ 0 = a e in absurd (omega arith)
        of_once p c d (joined e s j l) (fan_ins a b) = let z : p ≡ 0 = a e in absurd (omega arith)
        of_once p c d (joined e s j l) (joined f t i r) = join_once p c d j i
        of_once p c d (joined e s j l) (ends f t w i r) = absurd (let q : length c ≡ length w.join = ap length (join_once p c w.join j w.are) in let many : k < length w.join = w.wide in omega arith)
        of_once p c d (joined e s j l) (nearest f t w m i) = absurd (let q : length c ≡ length w.join = ap length (join_once p c w.join j w.are) in let many : k < length w.join = w.wide in omega arith)
        of_once p c d (ends e s w a l) (fan_ins b f) = let z : p ≡ 0 = b e in absurd (omega arith)
        of_once p c d (ends e s w a l) (joined f t j r) = absurd (let q : length w.join ≡ length d = ap length (join_once p w.join d w.are j) in let many : k < length w.join = w.wide in omega arith)
        of_once p c d (ends e s w a l) (ends f t v b r) = ends_once n p c d a b
        of_once p c d (ends e s w a l) (nearest f t v m b) = absurd (let q : length c ≡ length m.ends = ap length (ends_once n p c m.ends a m.are) in let many : k < length m.ends = m.many in omega arith)
        of_once p c d (nearest e s w m a) (fan_ins b f) = let z : p ≡ 0 = b e in absurd (omega arith)
        of_once p c d (nearest e s w m a) (joined f t j r) = absurd (let q : length w.join ≡ length d = ap length (join_once p w.join d w.are j) in let many : k < length w.join = w.wide in omega arith)
        of_once p c d (nearest e s w m a) (ends f t v b r) = absurd (let q : length d ≡ length m.ends = ap length (ends_once n p d m.ends b m.are) in let many : k < length m.ends = m.many in omega arith)
        of_once p c d (nearest e s w m a) (nearest f t v i b) = nearest_once g normal k n (p + 1) label c d a b

        has_once : (c d : List ℕ) → HasLow g k label lows n c → HasLow g k label rest n d → c ≡ d
        has_once c d a b = of_once a.greatest c d a.low (subst (λ p. IsLowOf g k label rest n p d) (greatest_once n b.greatest a.greatest b.is a.is) b.low)

      lows_below : AreLowsOf g k label lows → AreLowsOf g k label rest → (bound n : ℕ) → n < bound → lows n ≡ rest n
      lows_below a b zero n l = absurd (omega arith)
      lows_below a b (suc bound) n l = elim (cases_lt n (first_and g)) [
        | inl s ↦ none (λ and. let f : first_and g ≤ n = and.0 in absurd (omega arith))
        | inr f ↦ elim (cases_lt n (node_count g)) [
          | inl t ↦ has_once n (λ m q. lows_below a b bound m (omega arith)) (lows n) (rest n) (a.each n (f, t)) (b.each n (f, t))
          | inr past ↦ none (λ and. let t : n < node_count g = and.1 in absurd (omega arith))
        ]
      ]
        where
          none : (IsAnd g n → ⊥) → lows n ≡ rest n
          none not_and = a.none n not_and ∙ sym (b.none n not_and)

-- A graph has one low cut for each node.
pub one_low : (g : Aig) (k : ℕ) → AreNormal (first_and g) g.pairs → HasOneLow g k
one_low g k normal = record {
  once = λ f h lows rest a b c d n. lows_below g normal h k lows rest (subst (λ x. AreLowsOf g k x lows) (fun_ext (λ m. least_heights_once g k f h a b m)) c) d (suc n) n (omega arith);
}
