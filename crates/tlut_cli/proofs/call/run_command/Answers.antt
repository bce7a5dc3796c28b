use Rattle.tlut_cli.proofs.Common.{map, refl, inl, inr}
use Rattle.tlut_cli.proofs.CallLemmas.{ended_as}
use Rattle.tlut_cli.proofs.call.run_command.Goals as goal

pub returns-in-Run : goal.returns-in-Run
returns-in-Run g c = ended_as c.in-Run.is (record { ends = c.run_job.ensures.ends; files = inl c.run_job.ensures.files; laws = c.run_job.ensures.laws })

pub returns-in-Spec : goal.returns-in-Spec
returns-in-Spec g c = ended_as c.in-Spec.is (record { ends = c.spec_job.ensures.ends (map g.P.ConfigPort.port_seen c.args.ports.now.items); files = inr tt; laws = c.spec_job.ensures.laws })

pub returns-in-Map : goal.returns-in-Map
returns-in-Map g c = ended_as c.in-Map.is (record { ends = c.map_job.ensures.ends (map g.P.ConfigPort.port_seen c.args.ports.now.items); files = inr tt; laws = c.map_job.ensures.laws })

pub returns-in-Bits : goal.returns-in-Bits
returns-in-Bits g c = ended_as c.in-Bits.is (record { ends = c.bits_job.ensures.ends (map g.P.ConfigPort.port_seen c.args.ports.now.items); files = inl c.bits_job.ensures.files; laws = c.bits_job.ensures.laws })

pub returns-in-Gen : goal.returns-in-Gen
returns-in-Gen g c = ended_as c.in-Gen.is (record { ends = c.gen_job.ensures.ends (g.S.Shelf.seen c.args.shelf.now) (map g.P.ConfigPort.port_seen c.args.ports.now.items); files = inl refl; laws = c.gen_job.ensures.laws })

pub returns-in-Repack : goal.returns-in-Repack
returns-in-Repack g c = ended_as c.in-Repack.is (record { ends = c.repack_job.ensures.ends (map g.P.ConfigPort.port_seen c.args.ports.now.items); files = inr tt; laws = c.repack_job.ensures.laws })

pub returns-in-Prove : goal.returns-in-Prove
returns-in-Prove g c = ended_as c.in-Prove.is (record { ends = c.prove_job.ensures.ends (map g.P.ConfigPort.port_seen c.args.ports.now.items); files = inr tt; laws = c.prove_job.ensures.laws })

pub returns-in-Audit : goal.returns-in-Audit
returns-in-Audit g c = ended_as c.in-Audit.is (record { ends = c.audit_job.ensures.ends (map g.P.ConfigPort.port_seen c.args.ports.now.items); files = inl c.audit_job.ensures.files; laws = c.audit_job.ensures.laws })

pub returns-in-Graph : goal.returns-in-Graph
returns-in-Graph g c = ended_as c.in-Graph.is (record { ends = c.graph_job.ensures.ends (map g.P.ConfigPort.port_seen c.args.ports.now.items); files = inr tt; laws = c.graph_job.ensures.laws })

pub returns-in-Pace : goal.returns-in-Pace
returns-in-Pace g c = ended_as c.in-Pace.is (record { ends = c.pace_job.ensures.ends (map g.P.ConfigPort.port_seen c.args.ports.now.items); files = inl c.pace_job.ensures.files; laws = c.pace_job.ensures.laws })
