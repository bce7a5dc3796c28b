use Rattle.gen_case.proofs.Lemmas.{arith, partial_lines, lines_added}
use Rattle.gen_case.proofs.netlist.add_partial_row.Goals as goal

pub loop-i-preserved : goal.loop-i-preserved
loop-i-preserved c = lines_added (partial_lines c.args.j) 0 c.loop-i.i _ c.loop-i.i _ _ _ (omega arith) (omega arith) c.loop-i.invariant c.in_ok-add_partial.ensures
