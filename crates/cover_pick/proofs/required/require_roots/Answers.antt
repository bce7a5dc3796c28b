use Rattle.cover_pick.proofs.Lemmas.{arith, ◌<◌, ◌/◌, get_or, node_count, root_below}
use Rattle.cover_pick.proofs.required.require_roots.Goals as goal

pub require_root-requires : goal.require_root-requires
require_root-requires c =
    let a : (get_or c.args.roots.now c.loop-root.root-index (record { 0 = 0 })).0 / 2 < node_count c.args.graph.now = root_below c.args.graph.now c.args.roots.now c.loop-root.root-index (record { 0 = 0 }) c.requires.roots (omega arith) in omega arith
