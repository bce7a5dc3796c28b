use Rattle.gen_case.proofs.Lemmas.{arith, flat_map, below, partial_lines, lines_added}
use Rattle.gen_case.proofs.netlist.add_partials.Goals as goal

pub loop-j-preserved : goal.loop-j-preserved
loop-j-preserved c = lines_added (λ j. flat_map (partial_lines j) (below c.args.n)) 0 c.loop-j.j _ c.loop-j.j _ _ _ (omega arith) (omega arith) c.loop-j.invariant c.in_ok-add_partial_row.ensures
