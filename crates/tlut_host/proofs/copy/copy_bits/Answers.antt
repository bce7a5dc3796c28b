use Rattle.tlut_host.proofs.Lemmas.{◌≡◌, ℕ, ◌+◌, suc, Bool, false, List, take, ap, ◌∙◌, arith, slice_index_or, slice_set, set_length, copied_plain, copied_next, copied_whole}
use Rattle.tlut_host.proofs.copy.copy_bits.Goals as goal

pub loop-place-preserved : goal.loop-place-preserved
loop-place-preserved c =
    let i = c.loop-place.place in let d : Bool = false in let v : Bool = (slice_index_or c.args.from.now i d) in let more : suc i ≡ i + 1 = omega arith in (
      ap (λ (xs : List Bool). slice_set xs i v) c.loop-place.invariant.0 ∙ copied_next {A = Bool} {B = Bool} (λ y. y) c.args.from.now c.args.to.now i d (omega (arith, c.min-fits.ensures)) (omega (arith, c.min-fits.ensures))
          ∙ ap (λ (n : ℕ). copied_plain (take n c.args.from.now) c.args.to.now) more,
      set_length c.loop-place.to i v ∙ c.loop-place.invariant.1,
    )

pub returns-clause-copied : goal.returns-clause-copied
returns-clause-copied c =
    c.loop-place.invariant.0 ∙ copied_whole {A = Bool} {B = Bool} (λ y. y) c.args.from.now c.args.to.now c.loop-place.place (λ a b. omega (arith, c.min-fits.ensures, a, b))
