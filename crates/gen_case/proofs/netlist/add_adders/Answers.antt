use Rattle.gen_case.proofs.Lemmas.{arith, ◌-◌, flat_map, below, adder_lines, lines_added}
use Rattle.gen_case.proofs.netlist.add_adders.Goals as goal

pub loop-j-preserved : goal.loop-j-preserved
loop-j-preserved c = lines_added (λ j. flat_map (adder_lines c.args.n j) (below c.args.n)) 1 (c.loop-j.j - 1) _ c.loop-j.j _ _ _ (omega arith) (omega arith) c.loop-j.invariant c.in_ok-add_adder_row.ensures
