use Rattle.blif_flat.proofs.Lemmas.{◌≡◌, [], IfOk, subst, ap, ◌∙◌, ModelValue, commands_names, with_names, distinct_names, model_split}
use Rattle.blif_flat.proofs.circuit.nets.distinct_names.Goals as goal

pub returns : goal.returns
returns c =
    let m : ModelValue = c.args.model.now in
    let inputs : c.in_ok-inputs.inputs ≡ with_names [] m.inputs =
    c.in_ok-inputs.ensures ∙ ap (with_names []) (c.deref.ensures.value ∙ ap (λ (x : ModelValue). x.inputs) c.model.view_is) in
    let outputs : c.in_ok-outputs.outputs ≡ with_names (with_names [] m.inputs) m.outputs =
    c.in_ok-outputs.ensures ∙ ap (λ names. with_names names c.deref-2.result.now) inputs ∙ ap (with_names (with_names [] m.inputs)) (c.deref-2.ensures.value ∙ ap (λ (x : ModelValue). x.outputs) c.model.view_is) in
    let ports : c.in_ok-ports.ports ≡ with_names (with_names (with_names [] m.inputs) m.outputs) m.clocks =
    c.in_ok-ports.ensures ∙ ap (λ names. with_names names c.deref-3.result.now) outputs
    ∙ ap (with_names (with_names (with_names [] m.inputs) m.outputs)) (c.deref-3.ensures.value ∙ ap (λ (x : ModelValue). x.clocks) c.model.view_is) in
    let all : with_names c.in_ok-ports.ports (commands_names c.deref-4.result.now) ≡ distinct_names m =
    ap (λ names. with_names names (commands_names c.deref-4.result.now)) ports
    ∙ ap (λ cs. with_names (with_names (with_names (with_names [] m.inputs) m.outputs) m.clocks) (commands_names cs)) (c.deref-4.ensures.value ∙ ap (λ (x : ModelValue). x.commands) c.model.view_is) ∙ model_split m in
    subst (λ names. IfOk c.with_commands.result (λ made. made ≡ names)) all c.with_commands.ensures
