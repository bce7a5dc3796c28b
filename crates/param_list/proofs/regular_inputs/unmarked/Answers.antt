use Rattle.param_list.proofs.Common.{◌≡◌, ap, ◌∙◌, FlatValue, marks_of, off_places, ParamsValue, param_names}
use Rattle.param_list.proofs.regular_inputs.unmarked.Goals as goal

pub returns : goal.returns
returns c =
    let inputs : c.deref.result.now ≡ c.args.flat.now.inputs = c.deref.ensures.value ∙ ap (λ (f : FlatValue). f.inputs) c.flat.view_is in
    let params : c.deref-2.result.now ≡ c.args.params.now.list = c.deref-2.ensures.value ∙ ap (λ (p : ParamsValue). p.list) c.params.view_is in
    c.in_ok-places.ensures ∙ ap (off_places 0) (c.deref-3.ensures.value ∙ c.in_ok-marks.ensures ∙ ap (λ l. marks_of l (param_names c.deref-2.result.now)) inputs ∙ ap (λ l. marks_of c.args.flat.now.inputs (param_names l)) params)
