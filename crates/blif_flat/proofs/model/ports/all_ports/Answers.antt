use Rattle.blif_flat.proofs.Common.{member_at}
use Rattle.blif_flat.proofs.model.ports.all_ports.Goals as goal

pub make-requires : goal.make-requires
make-requires c = c.requires c.model-item.result (member_at c.args.models.now c.loop-model.model-index c.model-item.result c.loop-model-test.true c.model-item.is)
