use Rattle.run_text.proofs.Common.{refl, sym, ◌∙◌, slice_get-get_or, digit_bit}
use Rattle.run_text.proofs.EachLemmas.{each_next, each_stops}
use Rattle.run_text.proofs.cycle_values.read_digits.Goals as goal

pub returns-in_default : goal.returns-in_default
returns-in_default c = (
  each_stops digit_bit c.args.word.now c.loop-digit.digit-index _ (slice_get-get_or c.args.word.now c.loop-digit.digit-index 0 c.loop-digit-test.true) (sym c.digit_value.ensures ∙ c.in_default.is),
  refl,
)

pub loop-digit-preserved : goal.loop-digit-preserved
loop-digit-preserved c =
    each_next digit_bit c.args.word.now c.loop-digit.digit-index _ (slice_get-get_or c.args.word.now c.loop-digit.digit-index 0 c.loop-digit-test.true)
    c.loop-digit.values.items c.push.new.self.items c.in-Some.value (sym c.digit_value.ensures ∙ c.in-Some.is) c.in_ok-push.ensures.items c.loop-digit.invariant
