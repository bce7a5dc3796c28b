use Rattle.cmd_stations.proofs.Lemmas.{rules, netlist_text, specialised_of, written_over, specialised_runs}
use Rattle.cmd_stations.proofs.netlist_files.write_specialised.Goals as goal

pub returns-in_err-begin_write-clause-means : goal.returns-in_err-begin_write-clause-means
returns-in_err-begin_write-clause-means g c given len conf =
    specialised_runs c.args.draft.now.mapped.source c.requires.read c.args.draft.now.mapped.tables c.requires.made given c.args.config.now len conf

pub returns-clause-written : goal.returns-clause-written
returns-clause-written g c =
    written_over g.S.Shelf.seen (record { name = c.args.name.now; bytes = netlist_text (specialised_of c.args.draft.now.mapped.source c.args.draft.now.mapped.tables.template c.args.config.now) }) c.args.shelf.now c.begin_write.new.self c.over-file.result.shelf.now c.put_specialised.new.out.shelf.now _ c.put_specialised.result
    c.over-file.ensures.value (search rules) c.in_ok-begin_write.ensures.begins.1 c.in_ok-begin_write.ensures.begins.2 c.put_specialised.ensures.grown c.put_specialised.ensures.others

pub returns-clause-means : goal.returns-clause-means
returns-clause-means g c given len conf =
    specialised_runs c.args.draft.now.mapped.source c.requires.read c.args.draft.now.mapped.tables c.requires.made given c.args.config.now len conf
