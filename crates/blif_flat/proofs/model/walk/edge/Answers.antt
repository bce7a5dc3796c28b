use Rattle.blif_flat.proofs.Models.ModelPathLemmas.{placing_edge}
use Rattle.blif_flat.proofs.model.walk.edge.Goals as goal

pub returns-in-Ok : goal.returns-in-Ok
returns-in-Ok c = placing_edge c.args.models.now.list.now c.args.walk.now.path c.args.model.now (record { line = c.args.line; subckt = c.args.subckt.now }) c.requires.path c.requires.names c.in-Ok.n c.in-Ok.ensures.ok
