use Rattle.cmd_stations.proofs.Lemmas.{IsParamsFault, IsParamsRefusal, passed_stop}
use Rattle.param_list.specs.Refusals.{refusal_of as params_refusal}
use Rattle.cmd_stations.proofs.params.list_params.Goals as goal

pub returns-in_err-params-clause-err : goal.returns-in_err-params-clause-err
returns-in_err-params-clause-err c =
    passed_stop params_refusal (IsParamsFault c.args.netlist.now.flat c.args.text.now) (IsParamsRefusal c.args.netlist.now.flat c.args.text.now) c.from_residual.result c.in_err-params.field-0.0 c.in_err-params.ensures.fault c.from_residual.ensures.1
    (λ r told fault. record { e = c.in_err-params.field-0.0; fault = fault; tells = told })
