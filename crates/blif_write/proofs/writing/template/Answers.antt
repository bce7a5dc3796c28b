use Rattle.blif_write.proofs.Lemmas.{rules, put_over, ports_there, template_means}
use Rattle.blif_write.proofs.writing.template.Goals as goal

pub returns-clause-put : goal.returns-clause-put
returns-clause-put g c =
    put_over (search rules) c.over-writer.ensures (c.add_template.ensures c.args.params.now.list c.names_of-names.ensures) c.finish.ensures

pub returns-clause-means : goal.returns-clause-means
returns-clause-means g c = λ ports are. template_means c.args.flat.now c.args.params.now.list c.args.template.now ports are

pub returns-clause-ports : goal.returns-clause-ports
returns-clause-ports g c = λ library sound clean fields. ports_there library c.args.flat.now sound clean fields
