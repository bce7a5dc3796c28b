use Rattle.blif_flat.proofs.Fields.LoopOrderLemmas.{number_row, written_here}
use Rattle.blif_flat.proofs.field.written.written_cover.Goals as goal

pub write_cover-requires-clause-here : goal.write_cover-requires-clause-here
write_cover-requires-clause-here c = number_row c.args.library.now c.args.instances.now c.requires.instances c.args.gates.now c.requires.gates c.args.number (record { row = 0; command = 0 }) c.requires.here

pub returns : goal.returns
returns c = written_here c.args.library.now c.args.instances.now c.requires.instances c.args.gates.now c.requires.gates c.args.number (record { row = 0; command = 0 }) c.in_ok-text.text c.requires.here c.in_ok-text.ensures
