use Rattle.spec_core.proofs.KeepLemmas.{one_conf_each, Keeps-start}
use Rattle.spec_core.proofs.specialiser.Specialiser.make.Goals as goal

pub returns-in_err-evaluation-clause-one : goal.returns-in_err-evaluation-clause-one
returns-in_err-evaluation-clause-one c = one_conf_each c.args.pack c.make.ensures.normal c.make.ensures.is

pub returns-in_err-device-clause-one : goal.returns-in_err-device-clause-one
returns-in_err-device-clause-one c = one_conf_each c.args.pack c.make.ensures.normal c.make.ensures.is

pub returns-clause-one : goal.returns-clause-one
returns-clause-one c = one_conf_each c.args.pack c.make.ensures.normal c.make.ensures.is

pub invariant_of-result : goal.invariant_of-result
invariant_of-result c =
    let pack = c.in_ok-evaluation.ensures.pack in
    Keeps-start c.in_ok-evaluation.evaluation c.in_ok-device.device c.in_ok-evaluation.ensures.idle (rw pack c.in_ok-evaluation.ensures.normal) (rw pack c.in_ok-evaluation.ensures.is) c.in_ok-device.ensures
