use Rattle.cmd_stations.proofs.Lemmas.{◌∙◌, made_names}
use Rattle.cmd_stations.proofs.scripted.mapped_names.Goals as goal

pub returns : goal.returns
returns c = c.in_ok-names.ensures.names ∙ made_names c.args.forms c.args.mapped.now.source c.args.mapped.now.tables c.requires
