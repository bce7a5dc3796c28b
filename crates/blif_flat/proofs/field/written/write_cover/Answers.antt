use Rattle.blif_flat.proofs.Hierarchy.PlaceLemmas.{rows_under, written_cover}
use Rattle.blif_flat.proofs.field.written.write_cover.Goals as goal

pub written_under-requires-clause-instances : goal.written_under-requires-clause-instances
written_under-requires-clause-instances c = rows_under c.args.library.now c.args.instances.now c.requires.instances

pub returns : goal.returns
returns c = written_cover c.args.library.now c.args.instances.now c.requires.instances c.args.i c.row_at-model.result c.row_at-model.ensures c.args.command c.output_at.result.now c.in_ok-text.text
    c.output_at.ensures c.in_ok-text.ensures
