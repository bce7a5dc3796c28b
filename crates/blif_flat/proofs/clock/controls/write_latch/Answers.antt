use Rattle.blif_flat.proofs.Lemmas.{IfOk-weaker, is_latch, places_at, paths_of, gate_within, latch_stands, latch_written, rows_under}
use Rattle.blif_flat.proofs.clock.controls.write_latch.Goals as goal

pub write_net-requires-clause-instances : goal.write_net-requires-clause-instances
write_net-requires-clause-instances c = rows_under c.args.library.now c.args.wiring.now.instances.now c.requires.instances

pub write_net-requires-clause-here : goal.write_net-requires-clause-here
write_net-requires-clause-here c =
    gate_within c.args.wiring.now.instances.now c.args.wiring.now.latches.now (places_at c.args.library.now is_latch (paths_of c.args.wiring.now.instances.now)) c.requires.latches c.args.k c.gate_at-gate.result c.gate_at-gate.ensures

pub returns-in-None : goal.returns-in-None
returns-in-None c = IfOk-weaker c.make.result _ _
    (λ text h p e. absurd (latch_stands c.args.library.now c.args.wiring.now.instances.now c.requires.instances c.args.wiring.now.latches.now c.requires.latches c.args.k c.gate_at-gate.result c.gate_at-gate.ensures p e c.in-None.ensures))
    c.make.ensures

pub returns-in-Some : goal.returns-in-Some
returns-in-Some c = IfOk-weaker c.write_net.result _ _
    (λ text h p e. latch_written c.args.library.now c.args.wiring.now.instances.now c.requires.instances c.args.wiring.now.latches.now c.requires.latches c.args.k c.gate_at-gate.result c.gate_at-gate.ensures p e text c.in-Some.latch.now
    c.in-Some.ensures h) c.write_net.ensures
