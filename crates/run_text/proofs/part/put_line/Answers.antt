use Rattle.run_text.proofs.Common.{rules, put_over}
use Rattle.run_text.proofs.part.put_line.Goals as goal

pub returns : goal.returns
returns g c = put_over (search rules) c.over-writer.ensures c.add_parts.ensures c.finish.ensures
