use Rattle.cmd_graph.proofs.Common.{ap, rules, put_as, circuit_text, written_over, export_circuit, export_text}
use Rattle.cmd_graph.proofs.GraphJobLemmas.{not_written}
use Rattle.cmd_graph.proofs.export.write_export.Goals as goal

pub returns-clause-written : goal.returns-clause-written
returns-clause-written g c =
    let put = put_as (ap (λ places. circuit_text (export_circuit c.args.export.now.built places)) c.deref.ensures.value) c.put_aag.ensures.put in
    written_over g.S.Shelf.seen (export_text c.args.name.now c.args.export.now) c.args.shelf.now c.begin_write.new.self c.over-file.result.shelf.now c.put_aag.new.out.shelf.now _ c.put_aag.result
    c.over-file.ensures.value (search rules) c.in_ok-begin_write.ensures.begins.1 c.in_ok-begin_write.ensures.begins.2 put.grown put.others

pub returns-in_err-begin_write-clause-written : goal.returns-in_err-begin_write-clause-written
returns-in_err-begin_write-clause-written g c =
    not_written (export_text c.args.name.now c.args.export.now) _ _ c.from_residual.result c.from_residual.ensures.0 c.in_err-begin_write.ensures.begins.1
