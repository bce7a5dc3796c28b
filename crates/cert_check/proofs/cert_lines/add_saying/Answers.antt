use Rattle.cert_check.proofs.Lemmas.{ap, saying_value, path_added}
use Rattle.cert_check.proofs.cert_lines.add_saying.Goals as goal

pub returns-in-Path : goal.returns-in-Path
returns-in-Path c = path_added c.add_path.result c.args.steps.now.items c.add_path.new.steps.items c.args.line c.in-Path.nodes.items (saying_value c.args.saying) (ap saying_value c.in-Path.is) c.add_path.ensures
