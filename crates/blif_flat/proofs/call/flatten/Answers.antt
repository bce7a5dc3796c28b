use Rattle.blif_flat.proofs.Lemmas.{flat_evaluates, flat_cycles, flat_bounds}
use Rattle.blif_flat.proofs.call.flatten.Goals as goal

pub returns-clause-values : goal.returns-clause-values
returns-clause-values c = record { fields = c.in_ok-flat.ensures.flat; evaluates = flat_evaluates c.args.library.now c.in_ok-flat.flat c.in_ok-flat.ensures.flat }

pub returns-clause-cycles : goal.returns-clause-cycles
returns-clause-cycles c = flat_cycles c.args.library.now c.in_ok-flat.flat c.in_ok-flat.ensures.flat c.in_ok-flat.ensures.sound

pub returns-clause-bounds : goal.returns-clause-bounds
returns-clause-bounds c = flat_bounds c.args.library.now c.in_ok-flat.flat c.in_ok-flat.ensures.flat c.requires.formed c.in_ok-check_models.ensures.ok.light
