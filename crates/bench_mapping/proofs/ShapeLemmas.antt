-- When a graph's sources have a shape.
use Rattle.bench_mapping.proofs.Common.{◌≡◌, ℕ, ◌+◌, ◌-◌, ◌<◌, ◌≤◌, true, ◌&&◌, leb, ltb, length, sym, ◌∙◌, inl, inr, arith, same_Some, slice_get_within, and_from, or_left, or_right, le-leb, lt-ltb, cases_lt, Regular, Parameter, Aig, IsSource}
use Rattle.lut_sim.specs.declared.shape.Shape.{Shape}
use Rattle.lut_sim.specs.Sources.{is_regular, last_source}
use Rattle.lut_sim.specs.GraphShape.{HasShape}
use Rattle.lut_sim.proofs.SourceLemmas.{IsInputOrLatch, input, latch, either_side}

differ : Parameter ≡ Regular → ⊥
differ e = cc

module _ (g : Aig) (s : Shape) (count : s.regular + (s.params + s.latches) ≡ length g.kinds)
    (inputs : (n : ℕ) → 1 ≤ n → n < s.regular + 1 → IsSource g Regular n)
    (params : (n : ℕ) → s.regular + 1 ≤ n → n < s.regular + 1 + s.params → IsSource g Parameter n)
    (latches : (n : ℕ) → s.regular + 1 + s.params ≤ n → n < length g.kinds + 1 → IsSource g Regular n) where
  there : (n : ℕ) → IsInputOrLatch s n → IsSource g Regular n
  there n (input low high) = inputs n low (omega arith)
  there n (latch low high) = latches n (omega arith) (omega arith)

  input_place : (n : ℕ) → 1 ≤ n → n ≤ s.regular → is_regular s n ≡ true
  input_place n low high = or_left (leb 1 n && leb n s.regular) (ltb (s.regular + s.params) n && leb n (last_source s)) (and_from (leb 1 n) (leb n s.regular) (le-leb 1 n low) (le-leb n s.regular high))

  latch_place : (n : ℕ) → s.regular + s.params < n → n ≤ last_source s → is_regular s n ≡ true
  latch_place n low high =
      or_right (leb 1 n && leb n s.regular) (ltb (s.regular + s.params) n && leb n (last_source s)) (and_from (ltb (s.regular + s.params) n) (leb n (last_source s)) (lt-ltb (s.regular + s.params) n low) (le-leb n (last_source s) high))

  back : (n : ℕ) → IsSource g Regular n → is_regular s n ≡ true
  back n q =
      let low : 1 ≤ n = q.above in
      let within : n - 1 < length g.kinds = slice_get_within g.kinds (n - 1) Regular q.is in
      elim (cases_lt n (s.regular + 1)) [
        | inl l ↦ input_place n low (omega arith)
        | inr a ↦ elim (cases_lt n (s.regular + 1 + s.params)) [
          | inl l ↦ absurd (differ (same_Some Parameter Regular (sym (params n a l).is ∙ q.is)))
          | inr b ↦ latch_place n (omega arith) (omega arith)
        ]
      ]

  pub shape_is : HasShape g s
  shape_is = record {
    count = omega arith;
    to_regular = λ n h. there n (either_side s n h);
    from_regular = back;
  }
