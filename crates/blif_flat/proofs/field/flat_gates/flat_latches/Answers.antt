use Rattle.blif_flat.proofs.Lemmas.{sym, subst, regular_places, AreFlatLatches, paths_of, flat_latch, all_mapped, latches_are}
use Rattle.blif_flat.proofs.field.flat_gates.flat_latches.Goals as goal

pub returns : goal.returns
returns c r = subst (AreFlatLatches c.args.from.now.library.now (regular_places c.args.from.now.library.now r.main r.test (paths_of c.args.from.now.instances.now)))
    (sym (all_mapped (flat_latch c.args.from.now.library.now c.args.from.now.instances.now c.args.from.now.nets.now c.args.from.now.numbers.now) c.loop-gate.flat.items c.args.from.now.latches.now c.loop-gate.gate-index c.loop-gate.invariant c.loop-gate-test.false))
    (latches_are c.args.from.now.library.now c.args.from.now.instances.now c.requires.instances c.requires.driven c.args.from.now.numbers.now r c.args.from.now.nets.now c.requires.nets c.args.from.now.latches.now c.requires.latches)
