use Rattle.cmd_cert.proofs.Common.{rules, cert_text, written_over}
use Rattle.cmd_cert.proofs.certs.write_cert.Goals as goal

pub returns-clause-written : goal.returns-clause-written
returns-clause-written g c =
    written_over g.S.Shelf.seen (record { name = c.args.name.now; bytes = cert_text c.args.cert.now }) c.args.shelf.now c.begin_write.new.self c.over-file.result.shelf.now c.put_cert.new.out.shelf.now _ c.put_cert.result
    c.over-file.ensures.value (search rules) c.in_ok-begin_write.ensures.begins.1 c.in_ok-begin_write.ensures.begins.2 c.put_cert.ensures.put.grown c.put_cert.ensures.put.others
