use Rattle.gen_case.proofs.Lemmas.{arith, output_lines, lines_added}
use Rattle.gen_case.proofs.netlist.add_outputs.Goals as goal

pub loop-t-preserved : goal.loop-t-preserved
loop-t-preserved c = lines_added (output_lines c.args.n) 0 c.loop-t.t _ c.loop-t.t _ _ _ (omega arith) (omega arith) c.loop-t.invariant c.in_ok-add_output.ensures
