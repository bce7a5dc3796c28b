use Rattle.blif_flat.proofs.Common.{◌∙◌, ap, IfErr-weaker, SubcktValue, ModelValue, on_ok_weaker, passed_on}
use Rattle.blif_flat.proofs.Models.LineLemmas.{IsRead, formals_err, inputs_err, clocks_err, line_ok}
use Rattle.blif_flat.proofs.model.line_check.check_ports.Goals as goal

pub returns-in_err-check_formals-clause-err : goal.returns-in_err-check_formals-clause-err
returns-in_err-check_formals-clause-err c =
    let read : IsRead c.args.model.now c.args.subckt.now c.args.child.now c.args.ports.now c.model.inside.name c.deref.result.now =
    record { ports_are = c.requires; name_is = ap (λ (m : ModelValue). m.name) c.model.view_is; pairs_are = c.deref.ensures.value ∙ ap (λ (s : SubcktValue). s.pairs) c.subckt.view_is } in
    passed_on c.from_residual.result c.in_err-check_formals.field-0.0 _ _ c.from_residual.ensures.1
    (formals_err c.args.model.now c.args.line c.args.subckt.now c.args.child.now c.args.ports.now c.model.inside.name c.deref.result.now c.in_err-check_formals.field-0.0 read c.in_err-check_formals.ensures.err)

pub returns-in_err-check_inputs-clause-err : goal.returns-in_err-check_inputs-clause-err
returns-in_err-check_inputs-clause-err c =
    let read : IsRead c.args.model.now c.args.subckt.now c.args.child.now c.args.ports.now c.model.inside.name c.deref.result.now =
    record { ports_are = c.requires; name_is = ap (λ (m : ModelValue). m.name) c.model.view_is; pairs_are = c.deref.ensures.value ∙ ap (λ (s : SubcktValue). s.pairs) c.subckt.view_is } in
    passed_on c.from_residual-in_err-check_inputs.result c.in_err-check_inputs.field-0.0 _ _ c.from_residual-in_err-check_inputs.ensures.1
    (inputs_err c.args.model.now c.args.line c.args.subckt.now c.args.child.now c.args.ports.now c.model.inside.name c.deref.result.now c.deref-2.result.now c.in_ok-index.index c.deref-3.result.now c.in_err-check_inputs.field-0.0 read
    c.in_ok-check_formals.ensures.ok (c.deref-2.ensures.value ∙ ap (λ (s : SubcktValue). s.pairs) c.subckt.view_is) c.in_ok-index.ensures (c.deref-3.ensures.value ∙ ap (λ (m : ModelValue). m.inputs) c.child.view_is) c.in_err-check_inputs.ensures.err)

pub returns-clause-ok : goal.returns-clause-ok
returns-clause-ok c =
    let read : IsRead c.args.model.now c.args.subckt.now c.args.child.now c.args.ports.now c.model.inside.name c.deref.result.now =
    record { ports_are = c.requires; name_is = ap (λ (m : ModelValue). m.name) c.model.view_is; pairs_are = c.deref.ensures.value ∙ ap (λ (s : SubcktValue). s.pairs) c.subckt.view_is } in
    on_ok_weaker c.check_inputs-2.result (line_ok c.args.model.now c.args.line c.args.subckt.now c.args.child.now c.args.ports.now c.model.inside.name c.deref.result.now c.deref-2.result.now c.in_ok-index.index c.deref-3.result.now c.deref-4.result.now read
    c.in_ok-check_formals.ensures.ok (c.deref-2.ensures.value ∙ ap (λ (s : SubcktValue). s.pairs) c.subckt.view_is) c.in_ok-index.ensures (c.deref-3.ensures.value ∙ ap (λ (m : ModelValue). m.inputs) c.child.view_is) c.in_ok-check_inputs.ensures.ok
    (c.deref-4.ensures.value ∙ ap (λ (m : ModelValue). m.clocks) c.child.view_is)) c.check_inputs-2.ensures.ok

pub returns-clause-err : goal.returns-clause-err
returns-clause-err c =
    let read : IsRead c.args.model.now c.args.subckt.now c.args.child.now c.args.ports.now c.model.inside.name c.deref.result.now =
    record { ports_are = c.requires; name_is = ap (λ (m : ModelValue). m.name) c.model.view_is; pairs_are = c.deref.ensures.value ∙ ap (λ (s : SubcktValue). s.pairs) c.subckt.view_is } in
    IfErr-weaker c.check_inputs-2.result _ _ (λ e. clocks_err c.args.model.now c.args.line c.args.subckt.now c.args.child.now c.args.ports.now c.model.inside.name c.deref.result.now c.deref-2.result.now c.in_ok-index.index c.deref-3.result.now c.deref-4.result.now e read
    c.in_ok-check_formals.ensures.ok (c.deref-2.ensures.value ∙ ap (λ (s : SubcktValue). s.pairs) c.subckt.view_is) c.in_ok-index.ensures (c.deref-3.ensures.value ∙ ap (λ (m : ModelValue). m.inputs) c.child.view_is) c.in_ok-check_inputs.ensures.ok
    (c.deref-4.ensures.value ∙ ap (λ (m : ModelValue). m.clocks) c.child.view_is)) c.check_inputs-2.ensures.err
