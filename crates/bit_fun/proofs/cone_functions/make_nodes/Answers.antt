use Rattle.bit_fun.proofs.Common.{arith, In-get_or}
use Rattle.bit_fun.proofs.cone_functions.make_nodes.Goals as goal

pub make_node-requires-clause-node : goal.make_node-requires-clause-node
make_node-requires-clause-node c = c.requires.nodes _ (In-get_or c.args.order.now c.loop-n.n-index 0 (omega arith))
