use Rattle.aig_build.proofs.SourceLemmas.{names_apart}
use Rattle.aig_build.proofs.OnlyLemmas.{one_graph}
use Rattle.aig_build.proofs.building.build_within.Goals as goal

pub returns-in-Ok-clause-one : goal.returns-in-Ok-clause-one
returns-in-Ok-clause-one c = one_graph c.args.library.now c.args.flat.now c.args.params.now.list (names_apart c.args.flat.now c.args.params.now.list c.requires.bounds.inputs_once c.requires.params)

pub returns-in-Err-Full-clause-one : goal.returns-in-Err-Full-clause-one
returns-in-Err-Full-clause-one c = one_graph c.args.library.now c.args.flat.now c.args.params.now.list (names_apart c.args.flat.now c.args.params.now.list c.requires.bounds.inputs_once c.requires.params)

pub returns-in-Err-Memory-clause-one : goal.returns-in-Err-Memory-clause-one
returns-in-Err-Memory-clause-one c = one_graph c.args.library.now c.args.flat.now c.args.params.now.list (names_apart c.args.flat.now c.args.params.now.list c.requires.bounds.inputs_once c.requires.params)

pub make_netlist-requires-clause-values : goal.make_netlist-requires-clause-values
make_netlist-requires-clause-values c = c.flat_law.ensures.values c.requires.flat

pub make_netlist-requires-clause-cycles : goal.make_netlist-requires-clause-cycles
make_netlist-requires-clause-cycles c = c.flat_law.ensures.cycles c.requires.sound c.requires.flat
