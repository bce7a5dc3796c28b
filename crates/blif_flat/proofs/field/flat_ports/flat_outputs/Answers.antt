use Rattle.blif_flat.proofs.Fields.RegularNetLemmas.{output_names, output_nets}
use Rattle.blif_flat.proofs.field.flat_ports.flat_outputs.Goals as goal

pub returns-clause-names : goal.returns-clause-names
returns-clause-names c r = output_names c.args.library.now c.args.instances.now c.requires.instances c.requires.driven c.args.numbers.now r c.args.nets.now c.requires.nets c.in_ok-ports.ports.items c.main_outputs.result.now
    c.in_ok-ports.ensures c.main_outputs.ensures

pub returns-clause-nets : goal.returns-clause-nets
returns-clause-nets c r = output_nets c.args.library.now c.args.instances.now c.requires.instances c.requires.driven c.args.numbers.now r c.args.nets.now c.requires.nets c.in_ok-ports.ports.items c.main_outputs.result.now
    c.in_ok-ports.ensures c.main_outputs.ensures
