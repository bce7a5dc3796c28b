use Rattle.blif_flat.proofs.Common.{map, ap, ◌∙◌, ModelValue, subckts_of, LibraryValue}
use Rattle.blif_flat.proofs.Connections.NetAllLemmas.{inputs_fit, filled}
use Rattle.blif_flat.proofs.circuit.net_table.fill_nets.Goals as goal

pub set_inputs-requires-clause-few : goal.set_inputs-requires-clause-few
set_inputs-requires-clause-few c =
    inputs_fit c.args.library.now c.args.instances.now c.library.inside.models.items c.index-main.result.now c.args.ports.now c.index-ports-0.result c.args.empty c.requires.formed c.requires.instances c.requires.ports c.requires.empty
    (ap (λ (l : LibraryValue). l.models) c.library.view_is) c.index-main.ensures c.index-ports-0.is c.requires.light

pub returns : goal.returns
returns c =
    filled c.args.library.now c.args.instances.now c.library.inside.models.items c.index-main.result.now c.args.ports.now c.index-ports-0.result c.args.empty c.requires.formed c.requires.instances c.requires.ports c.requires.empty
    (ap (λ (l : LibraryValue). l.models) c.library.view_is) c.index-main.ensures c.index-ports-0.is
    c.requires.driven c.args.covers.now c.args.latches.now c.requires.covers c.requires.latches c.in_ok-lines.lines (c.in_ok-lines.ensures ∙ ap (λ ms. map (λ (m : ModelValue). subckts_of m.commands) ms) c.deref.ensures.value)
    c.set_covers.new.nets c.set_latches.new.nets c.set_inputs.new.nets c.links_out.new.nets c.links_in.new.nets c.set_covers.ensures.covers c.set_latches.ensures.latches c.set_inputs.ensures.inputs c.links_out.ensures.out c.links_in.ensures.inside
