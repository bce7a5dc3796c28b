use Rattle.aiger_io.proofs.Lemmas.{rules, added_as, added_twice, put_over, whole_text}
use Rattle.aiger_io.proofs.written_text.put_aag.Goals as goal

pub returns : goal.returns
returns g c = record {
  put = put_over (search rules) c.over-writer.ensures
      (added_as (whole_text c.count_inputs-inputs.result c.args.flat.now c.args.params.now.list c.args.regular.now c.args.graph.now c.args.roots.now c.count_inputs-inputs.ensures) (added_twice c.add_lines.ensures c.add_symbols.ensures)) c.finish.ensures;
}
