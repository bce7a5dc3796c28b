use Rattle.ppc_file.proofs.Lemmas.{arith}
use Rattle.ppc_file.proofs.OneReading.{one_reading}
use Rattle.ppc_file.proofs.decoder.decode.Goals as goal

pub returns-clause-one_reading : goal.returns-clause-one_reading
returns-clause-one_reading c = one_reading c.args.bytes.now (λ i. omega (arith, c.type_inv.bytes i))
