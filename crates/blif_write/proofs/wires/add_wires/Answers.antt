use Rattle.blif_write.proofs.Lemmas.{arith, In-get_or, added_as, added_to, added_none, wire_next, wires_whole}
use Rattle.blif_write.proofs.wires.add_wires.Goals as goal

pub loop-place-init : goal.loop-place-init
loop-place-init g c = added_none g.O.Sink.seen c.args.writer.now

pub loop-place-preserved : goal.loop-place-preserved
loop-place-preserved g c = added_to (wire_next c.args.names.now c.args.outputs.now c.args.roots.now c.loop-place.place _ _ c.requires.count (omega arith)) c.loop-place.invariant c.add_wire.ensures

pub returns : goal.returns
returns g c = added_as (wires_whole c.args.names.now c.args.outputs.now c.args.roots.now c.loop-place.place c.requires.count (omega arith)) c.loop-place.invariant

pub add_wire-requires : goal.add_wire-requires
add_wire-requires g c = record { under = c.requires.under _ (In-get_or c.args.outputs.now c.loop-place.place c.index-outputs-place.result (omega arith)) }
