use Rattle.cmd_stations.proofs.Lemmas.{rules, present_bytes, written_over}
use Rattle.cmd_stations.proofs.pack_files.write_pack.Goals as goal

pub returns-clause-written : goal.returns-clause-written
returns-clause-written g c =
    written_over g.S.Shelf.seen (record { name = c.args.name.now; bytes = present_bytes c.args.pack.now }) c.args.shelf.now c.begin_write.new.self c.over-file.result.shelf.now c.encode.new.out.shelf.now _ c.encode.result
    c.over-file.ensures.value (search rules) c.in_ok-begin_write.ensures.begins.1 c.in_ok-begin_write.ensures.begins.2 c.encode.ensures.put.grown c.encode.ensures.put.others
