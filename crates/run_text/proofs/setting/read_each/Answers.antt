use Rattle.run_text.proofs.Common.{sym, ◌∙◌, ap, refl, slice_get-get_or, In-get, token_bytes, setting_of}
use Rattle.run_text.proofs.EachLemmas.{each_next_of, each_stops_of}
use Rattle.run_text.proofs.setting.read_each.Goals as goal

pub bytes-requires : goal.bytes-requires
bytes-requires c = c.requires _ (In-get c.args.tokens.now c.loop-token.token-index _ (slice_get-get_or c.args.tokens.now c.loop-token.token-index _ c.loop-token-test.true))

pub returns-in_default : goal.returns-in_default
returns-in_default c = (
  each_stops_of setting_of (token_bytes c.args.text.now) c.args.tokens.now c.loop-token.token-index _ (slice_get-get_or c.args.tokens.now c.loop-token.token-index _ c.loop-token-test.true)
      (ap setting_of (sym c.bytes.ensures) ∙ sym c.in_ok-setting.ensures ∙ c.in_default.is),
  refl,
)

pub loop-token-preserved : goal.loop-token-preserved
loop-token-preserved c =
    each_next_of setting_of (token_bytes c.args.text.now) c.args.tokens.now c.loop-token.token-index _ (slice_get-get_or c.args.tokens.now c.loop-token.token-index _ c.loop-token-test.true)
    c.loop-token.settings.items c.push.new.self.items c.in-Some.setting (ap setting_of (sym c.bytes.ensures) ∙ sym c.in_ok-setting.ensures ∙ c.in-Some.is) c.in_ok-push.ensures.items c.loop-token.invariant
