use Rattle.std.proofs.lemmas.Result.{IfOk-weaker}
use Rattle.bit_fun.proofs.LawLemmas.{has_one_bit, has_one_configuration}
use Rattle.bit_fun.proofs.PackLemmas.{has_configurations, has_one_pack}
use Rattle.bit_fun.proofs.template_functions.functions.Goals as goal

pub returns-clause-conf : goal.returns-clause-conf
returns-clause-conf c = IfOk-weaker c.make_pack.result _ _ (λ pack is. has_configurations c.args.graph.now c.args.template.now.luts c.args.params.now.list pack c.requires.mapped c.requires.count is) c.make_pack.ensures.pack

pub returns-clause-one : goal.returns-clause-one
returns-clause-one c = has_one_pack c.args.graph.now c.args.template.now.luts c.args.params.now.list c.requires.mapped

pub returns-clause-bit : goal.returns-clause-bit
returns-clause-bit c = λ given len b within. has_one_bit c.args.graph.now c.args.template.now.luts given b c.requires.mapped len within

pub returns-clause-configuration : goal.returns-clause-configuration
returns-clause-configuration c = λ given len. has_one_configuration c.args.graph.now c.args.template.now.luts given c.requires.mapped len
