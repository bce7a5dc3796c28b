use Rattle.cert_check.proofs.Lemmas.{sym, ◌∙◌, ap, refl, slice_get-get_or, In-get, number_of, numbers_next, numbers_stop}
use Rattle.cert_check.proofs.saying.read_numbers.Goals as goal

pub bytes-requires : goal.bytes-requires
bytes-requires c = c.requires _ (In-get c.args.tokens.now c.loop-token.token-index _ (slice_get-get_or c.args.tokens.now c.loop-token.token-index _ c.loop-token-test.true))

pub returns-in_default : goal.returns-in_default
returns-in_default c = (
  numbers_stop c.args.text.now c.args.tokens.now c.loop-token.token-index _ (slice_get-get_or c.args.tokens.now c.loop-token.token-index _ c.loop-token-test.true)
      (ap number_of (sym c.bytes.ensures) ∙ sym c.number.ensures ∙ c.in_default.is),
  refl,
)

pub loop-token-preserved : goal.loop-token-preserved
loop-token-preserved c =
    numbers_next c.args.text.now c.args.tokens.now c.loop-token.token-index _ (slice_get-get_or c.args.tokens.now c.loop-token.token-index _ c.loop-token-test.true)
    c.loop-token.numbers.items c.push.new.self.items c.in-Some.number (ap number_of (sym c.bytes.ensures) ∙ sym c.number.ensures ∙ c.in-Some.is) c.in_ok-push.ensures.items c.loop-token.invariant
