use Rattle.cmd_graph.proofs.Common.{[], ◌∷◌, refl, string_bytes, put_as, cut_in_file, line_ends, export_text}
use Rattle.cmd_graph.proofs.job.write_out.Goals as goal

pub returns-in-Err-clause-ends : goal.returns-in-Err-clause-ends
returns-in-Err-clause-ends g c ports =
    cut_in_file [] (export_text c.args.name.now c.args.export.now) [] (string_bytes c.args.export.now.line) (g.S.Shelf.seen c.args.shelf.now) (g.S.Shelf.seen c.args.shelf.now) (g.S.Shelf.seen c.write_export.new.shelf) (g.O.Sink.seen c.args.out.now) ports refl
    c.in-Err.ensures.written c.in-Err.ensures.cause.failed

pub returns-in-Ok-clause-ends : goal.returns-in-Ok-clause-ends
returns-in-Ok-clause-ends g c ports =
    line_ends (export_text c.args.name.now c.args.export.now ∷ []) (string_bytes c.args.export.now.line) (g.S.Shelf.seen c.args.shelf.now) (g.S.Shelf.seen c.write_export.new.shelf) (g.O.Sink.seen c.args.out.now) (g.O.Sink.seen c.put.new.self) ports
    c.put.result c.in-Ok.ensures.written (put_as c.as_bytes.ensures.value c.put.ensures)
