use Rattle.ppc_file.proofs.Lemmas.{arith, in_bits, in_nodes, refl, [], le-ltb, length, refused_on, stands_bit_count, field_refused}
use Rattle.ppc_file.proofs.read_bits.read_bits.Goals as goal

pub read_each-requires-clause-stands : goal.read_each-requires-clause-stands
read_each-requires-clause-stands c = stands_bit_count c.args.file.now (λ i. omega (arith, c.type_inv.file i)) c.args.version c.args.params.now c.args.graph.now.pairs c.args.rest.now (c.in_ok-count.count, c.in_ok-count.rest.now) c.requires.stands c.in_ok-count.ensures

pub returns-in_err-count-clause-fault : goal.returns-in_err-count-clause-fault
returns-in_err-count-clause-fault c = refused_on c.args.file.now c.from_residual.result c.in_err-count.field-0.0 c.from_residual.ensures.1
    (field_refused c.args.file.now (in_nodes c.args.version c.args.params.now (length c.args.graph.now.pairs) c.args.graph.now.pairs) c.args.rest.now (λ n. in_bits c.args.version c.args.params.now c.args.graph.now.pairs n []) _ _ c.requires.stands c.in_err-count.ensures
    (rw (le-ltb (length c.args.graph.now.pairs) (length c.args.graph.now.pairs) (omega arith)) refl))
