use Rattle.ppc_file.proofs.Lemmas.{arith, versioned, in_params, refl, [], refused_on, stands_param_count, field_refused}
use Rattle.ppc_file.proofs.read_params.read_params.Goals as goal

pub read_each-requires-clause-stands : goal.read_each-requires-clause-stands
read_each-requires-clause-stands c = stands_param_count c.args.file.now (λ i. omega (arith, c.type_inv.file i)) c.args.version c.args.rest.now (c.in_ok-count.count, c.in_ok-count.rest.now) c.requires.stands c.in_ok-count.ensures

pub returns-in_err-count-clause-fault : goal.returns-in_err-count-clause-fault
returns-in_err-count-clause-fault c = refused_on c.args.file.now c.from_residual.result c.in_err-count.field-0.0 c.from_residual.ensures.1
    (field_refused c.args.file.now (versioned c.args.version) c.args.rest.now (λ n. in_params c.args.version n []) _ _ c.requires.stands c.in_err-count.ensures refl)
