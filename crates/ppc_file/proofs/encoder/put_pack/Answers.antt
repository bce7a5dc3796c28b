use Rattle.ppc_file.proofs.Common.{rules, put_over}
use Rattle.ppc_file.proofs.encoder.put_pack.Goals as goal

pub returns-clause-put : goal.returns-clause-put
returns-clause-put g c = put_over (search rules) c.over-writer.ensures c.add_pack.ensures.added c.finish.ensures
