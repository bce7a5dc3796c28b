use Rattle.cmd_run.proofs.CaseLemmas.{netlist_stops, params_stop}
use Rattle.cmd_run.proofs.gen_command.prepare.read_case.Goals as goal

pub returns-in-Err-clause-err : goal.returns-in-Err-clause-err
returns-in-Err-clause-err c rule files have = netlist_stops rule files c.args.netlist_text.items c.args.params_text.now c.in-Err.stop c.at.result c.at.ensures have c.in-Err.ensures.err c.in-Err.ensures.settled

pub returns-in-Err-list_params-clause-err : goal.returns-in-Err-list_params-clause-err
returns-in-Err-list_params-clause-err c rule files have =
    params_stop rule files c.args.netlist_text.items c.args.params_text.now c.in-Ok.netlist c.in-Err-list_params.stop c.at-in-Err-list_params.result c.at-in-Err-list_params.ensures have c.in-Ok.ensures.ok c.in-Ok.ensures.settled
    c.in-Err-list_params.ensures.one c.in-Err-list_params.ensures.err
