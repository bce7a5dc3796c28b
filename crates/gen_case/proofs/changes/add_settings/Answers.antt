use Rattle.gen_case.proofs.Lemmas.{arith, setting, word_added}
use Rattle.gen_case.proofs.changes.add_settings.Goals as goal

pub loop-place-preserved : goal.loop-place-preserved
loop-place-preserved c = word_added (setting c.args.value) 0 c.loop-place.place _ c.loop-place.place _ _ _ (omega arith) (omega arith) c.loop-place.invariant c.in_ok-add_setting.ensures
