use Rattle.lut_sim.proofs.MappingLemmas.{mapping_playable}
use Rattle.lut_sim.proofs.shape.Shape.new.Goals as goal

pub returns-clause-playable : goal.returns-clause-playable
returns-clause-playable c = λ g k roots t has mapping outs nexts latches. mapping_playable t g k roots _ mapping has latches outs nexts
