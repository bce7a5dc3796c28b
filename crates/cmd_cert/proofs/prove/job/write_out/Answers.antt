use Rattle.cmd_cert.proofs.Common.{[], ◌∷◌, refl, string_bytes, cert_text, FileText, cut_in_file, line_ends}
use Rattle.tl_io.proofs.PutLemmas.{put_as}
use Rattle.cmd_cert.proofs.prove.job.write_out.Goals as goal

pub returns-in-Err-clause-ends : goal.returns-in-Err-clause-ends
returns-in-Err-clause-ends g c ports =
    let text : FileText = record { name = c.args.name.now; bytes = cert_text c.args.proof.now.cert } in
    cut_in_file [] text [] (string_bytes c.args.proof.now.line) (g.S.Shelf.seen c.args.shelf.now) (g.S.Shelf.seen c.args.shelf.now) (g.S.Shelf.seen c.write_cert.new.shelf) (g.O.Sink.seen c.args.out.now) ports refl
    c.in-Err.ensures.written c.in-Err.ensures.cause.failed

pub returns-in-Ok-clause-ends : goal.returns-in-Ok-clause-ends
returns-in-Ok-clause-ends g c ports =
    let text : FileText = record { name = c.args.name.now; bytes = cert_text c.args.proof.now.cert } in
    line_ends (text ∷ []) (string_bytes c.args.proof.now.line) (g.S.Shelf.seen c.args.shelf.now) (g.S.Shelf.seen c.write_cert.new.shelf) (g.O.Sink.seen c.args.out.now) (g.O.Sink.seen c.put_line.new.out) ports
    c.put_line.result c.in-Ok.ensures.written (put_as c.as_str.ensures.value c.put_line.ensures)
