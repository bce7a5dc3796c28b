use Rattle.ppc_file.proofs.Lemmas.{nothing, lettered, refl, refused_on, field_refused}
use Rattle.ppc_file.proofs.decoder.read_head.Goals as goal

pub returns-in_err-_letters-clause-fault : goal.returns-in_err-_letters-clause-fault
returns-in_err-_letters-clause-fault c = refused_on c.args.file.now c.from_residual.result c.in_err-_letters.field-0.0 c.from_residual.ensures.1
    (field_refused c.args.file.now nothing c.args.file.now (λ letters. lettered) _ _ (record { spelled = refl; sound = tt }) c.in_err-_letters.ensures refl)
