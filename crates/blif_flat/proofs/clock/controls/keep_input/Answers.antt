use Rattle.blif_flat.proofs.Clocking.ClockStepLemmas.{kept_first}
use Rattle.blif_flat.proofs.clock.controls.keep_input.Goals as goal

pub returns-in-None-clause-ok : goal.returns-in-None-clause-ok
returns-in-None-clause-ok c = kept_first c.args.inputs.now c.args.first c.args.j c.in-None.is c.requires.here
