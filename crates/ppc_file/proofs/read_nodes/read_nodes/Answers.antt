use Rattle.ppc_file.proofs.Lemmas.{arith, in_params, in_nodes, refl, [], le-ltb, length, refused_on, stands_node_count, field_refused}
use Rattle.ppc_file.proofs.read_nodes.read_nodes.Goals as goal

pub graph_over-requires : goal.graph_over-requires
graph_over-requires c = c.requires.stands.sound.1.few

pub read_each-requires-clause-stands : goal.read_each-requires-clause-stands
read_each-requires-clause-stands c = stands_node_count c.args.file.now (λ i. omega (arith, c.type_inv.file i)) c.args.version c.args.params.now c.args.rest.now (c.in_ok-count.count, c.in_ok-count.rest.now) c.requires.stands c.in_ok-count.ensures

pub returns-in_err-count-clause-fault : goal.returns-in_err-count-clause-fault
returns-in_err-count-clause-fault c = refused_on c.args.file.now c.from_residual.result c.in_err-count.field-0.0 c.from_residual.ensures.1
    (field_refused c.args.file.now (in_params c.args.version (length c.args.params.now) c.args.params.now) c.args.rest.now (λ n. in_nodes c.args.version c.args.params.now n []) _ _ c.requires.stands c.in_err-count.ensures
    (rw (le-ltb (length c.args.params.now) (length c.args.params.now) (omega arith)) refl))
