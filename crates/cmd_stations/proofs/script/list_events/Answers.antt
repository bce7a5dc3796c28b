use Rattle.cmd_stations.proofs.Lemmas.{IsScriptFault, IsScriptRefusal, passed_stop}
use Rattle.run_text.specs.ScriptRefusals.{refusal_of as script_refusal}
use Rattle.cmd_stations.proofs.script.list_events.Goals as goal

pub returns-in_err-events-clause-err : goal.returns-in_err-events-clause-err
returns-in_err-events-clause-err c =
    passed_stop script_refusal (IsScriptFault c.args.names.now c.args.text.now) (IsScriptRefusal c.args.names.now c.args.text.now) c.from_residual.result c.in_err-events.field-0.0 c.in_err-events.ensures.fault c.from_residual.ensures.1
    (λ r told fault. record { e = c.in_err-events.field-0.0; fault = fault; tells = told })
