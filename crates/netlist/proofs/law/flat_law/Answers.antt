use Rattle.netlist.proofs.EvaluateLemmas.{flat_cycles}
use Rattle.netlist.proofs.law.flat_law.Goals as goal

-- src/law.rt:27:1
pub returns-clause-cycles : goal.returns-clause-cycles
returns-clause-cycles c sound flat = flat_cycles c.args.library.now c.args.flat.now flat sound
