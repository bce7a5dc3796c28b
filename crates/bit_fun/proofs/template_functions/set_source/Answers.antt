use Rattle.bit_fun.proofs.Lemmas.{◌∙◌, ap, Some, arith, count_few, regular_source, parameter_source}
use Rattle.bit_fun.proofs.template_functions.set_source.Goals as goal

pub overflow_add-lits : goal.overflow_add-lits
overflow_add-lits c = omega (arith, count_few c.args.graph.now c.args.i c.args.count c.args.lits.now c.requires.before)

pub overflow_mul-lits : goal.overflow_mul-lits
overflow_mul-lits c = omega (arith, count_few c.args.graph.now c.args.i c.args.count c.args.lits.now c.requires.before)

pub overflow_add-result : goal.overflow_add-result
overflow_add-result c = omega (arith, count_few c.args.graph.now c.args.i c.args.count c.args.lits.now c.requires.before)

pub returns-in-Regular : goal.returns-in-Regular
returns-in-Regular c = regular_source c.args.graph.now c.args.i c.args.count c.args.lits.now (c.kind.ensures ∙ ap (λ k. Some k) c.in-Regular.is) c.requires.before

pub returns-in-Parameter : goal.returns-in-Parameter
returns-in-Parameter c = parameter_source c.args.graph.now c.args.i c.args.count c.args.lits.now (c.kind.ensures ∙ ap (λ k. Some k) c.in-Parameter.is) c.requires.before
