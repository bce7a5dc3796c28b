use Rattle.flow_cert.proofs.Common.{refl, no_more}
use Rattle.flow_cert.proofs.target.deeper.Goals as goal

pub returns-then-depth-best : goal.returns-then-depth-best
returns-then-depth-best c = no_more c.level-depth.result c.level-depth.ensures c.if-depth-best.true refl refl
