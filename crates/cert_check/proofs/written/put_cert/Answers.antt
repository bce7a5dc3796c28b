use Rattle.cert_check.proofs.Lemmas.{reads_back, rules, put_over}
use Rattle.cert_check.proofs.written.put_cert.Goals as goal

pub returns-clause-put : goal.returns-clause-put
returns-clause-put g c = put_over (search rules) c.over-writer.ensures c.add_cert.ensures c.finish.ensures

pub returns-clause-reads_back : goal.returns-clause-reads_back
returns-clause-reads_back g c = reads_back c.args.cert.now
