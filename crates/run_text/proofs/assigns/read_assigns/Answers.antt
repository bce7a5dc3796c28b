use Rattle.run_text.proofs.Common.{◌≡◌, ℕ, ◌+◌, List, [], ◌∷◌, ◌++◌, drop, length, Some, refl, sym, ap, ◌∙◌, arith, slice_get_read, drop_at, drop_past, OrMemory-map, passed_on, place_of, refusal_of, settings_refusal, assign_of, Setting}
use Rattle.run_text.proofs.EachLemmas.{each_next, each_all}
use Rattle.run_text.proofs.assigns.read_assigns.Goals as goal

pub returns-in_err-assign : goal.returns-in_err-assign
returns-in_err-assign c =
    let refusal = settings_refusal c.args.params.now c.args.number c.loop-setting.seen in
    passed_on c.from_residual.result c.in_err-assign.field-0.0 _ _ c.from_residual.ensures.1
    (OrMemory-map refusal_of (λ e. (rest : List Setting) → settings_refusal c.args.params.now c.args.number c.loop-setting.seen (c.setting-item.result ∷ rest) ≡ Some e)
    (λ e. settings_refusal c.args.params.now c.args.number [] c.args.settings.now ≡ Some e) c.in_err-assign.field-0.0
    (λ e is. sym c.loop-setting.invariant.refusal ∙ ap refusal (drop_at c.args.settings.now c.loop-setting.setting-index c.setting-item.result c.loop-setting-test.true c.setting-item.is)
    ∙ is (drop (c.loop-setting.setting-index + 1) c.args.settings.now)) c.in_err-assign.ensures)

pub add-requires : goal.add-requires
add-requires c = ap (place_of c.loop-setting.seen) c.bytes.ensures ∙ c.in_ok-assign.ensures.1

pub loop-setting-preserved : goal.loop-setting-preserved
loop-setting-preserved c =
    let rest : List Setting = drop (c.loop-setting.setting-index + 1) c.args.settings.now in
    let added : c.add.new.self ≡ c.loop-setting.seen ++ c.setting-item.result.name ∷ [] = c.in_ok-add.ensures.ok ∙ ap (λ (l : List ℕ). c.loop-setting.seen ++ l ∷ []) c.bytes.ensures in
    record {
      refusal = ap (λ s. settings_refusal c.args.params.now c.args.number s rest) added ∙ sym (c.in_ok-assign.ensures.2 rest)
          ∙ sym (ap (settings_refusal c.args.params.now c.args.number c.loop-setting.seen) (drop_at c.args.settings.now c.loop-setting.setting-index c.setting-item.result c.loop-setting-test.true c.setting-item.is))
          ∙ c.loop-setting.invariant.refusal;
      are = each_next (assign_of c.args.params.now) c.args.settings.now c.loop-setting.setting-index c.setting-item.result
          (slice_get_read c.args.settings.now (length c.args.settings.now) c.loop-setting.setting-index c.setting-item.result refl c.loop-setting-test.true c.setting-item.is)
          c.loop-setting.assigns.items c.push.new.self.items c.in_ok-assign.assign c.in_ok-assign.ensures.0 c.in_ok-push.ensures.items c.loop-setting.invariant.are;
    }

pub returns : goal.returns
returns c = (
  sym c.loop-setting.invariant.refusal ∙ ap (settings_refusal c.args.params.now c.args.number c.loop-setting.seen) (drop_past c.args.settings.now c.loop-setting.setting-index (omega arith)),
  each_all (assign_of c.args.params.now) c.args.settings.now c.loop-setting.setting-index c.loop-setting.assigns.items c.loop-setting.invariant.are (omega arith),
)
