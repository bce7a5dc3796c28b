use Rattle.gen_case.proofs.Lemmas.{arith, param_lines, lines_added}
use Rattle.gen_case.proofs.changes.add_params.Goals as goal

pub loop-place-preserved : goal.loop-place-preserved
loop-place-preserved c = lines_added (param_lines c.first_coefficient-value.result) 0 c.loop-place.place _ c.loop-place.place _ _ _ (omega arith) (omega arith) c.loop-place.invariant c.in_ok-add_param.ensures
