use Rattle.cmd_run.proofs.Lemmas.{ap, ◌∙◌, CaseValue, have_case, case_ready, case_stopped}
use Rattle.cmd_run.proofs.gen_command.prepare.prepare_case.Goals as goal

pub returns-in-Ok-clause-prepared : goal.returns-in-Ok-clause-prepared
returns-in-Ok-clause-prepared c =
    let words = c.args.words.now in
    let was = c.case.view_is in
    let made = c.in-Ok.ensures in
    let have = have_case words c.in-Ok.case c.case.inside.netlist.items c.deref.result.now c.deref-in-Ok.result.now (ap (λ (m : CaseValue). m.netlist) was)
    (c.deref.ensures.value ∙ ap (λ (m : CaseValue). m.params) was) (c.deref-in-Ok.ensures.value ∙ ap (λ (m : CaseValue). m.script) was) made.netlist made.params made.script made.short in
    case_ready words c.case.inside.netlist.items c.deref.result.now c.deref-in-Ok.result.now have c.ready_case.result c.ready_case.ensures.prepared

pub returns-in-Ok-clause-err : goal.returns-in-Ok-clause-err
returns-in-Ok-clause-err c =
    let words = c.args.words.now in
    let was = c.case.view_is in
    let made = c.in-Ok.ensures in
    let have = have_case words c.in-Ok.case c.case.inside.netlist.items c.deref.result.now c.deref-in-Ok.result.now (ap (λ (m : CaseValue). m.netlist) was)
    (c.deref.ensures.value ∙ ap (λ (m : CaseValue). m.params) was) (c.deref-in-Ok.ensures.value ∙ ap (λ (m : CaseValue). m.script) was) made.netlist made.params made.script made.short in
    case_stopped words c.case.inside.netlist.items c.deref.result.now c.deref-in-Ok.result.now have c.ready_case.result c.ready_case.ensures.err
