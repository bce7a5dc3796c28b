use Rattle.param_list.proofs.Common.{◌≡◌, ℕ, List, [], length, map, subst, ap, ◌∙◌, arith, OrMemory-map, OrMemory, WordsLine, words_line, FlatValue, has_name, new_names, has_with_names, refusal_of, IsFirstRefusal, AreParamsOf, passed_err}
use Rattle.tl_text.specs.NameSets.{with_names}
use Rattle.param_list.proofs.OnceLemmas.{same_params, same_first}
use Rattle.param_list.proofs.param_lines.read_lines.Goals as goal

pub read_each-requires-clause-few : goal.read_each-requires-clause-few
read_each-requires-clause-few c =
    let inputs : c.in_ok-inputs.inputs ≡ c.args.flat.now.inputs = c.in_ok-inputs.ensures ∙ ap (with_names []) (c.deref.ensures.value ∙ ap (λ (f : FlatValue). f.inputs) c.flat.view_is) ∙ new_names c.args.flat.now.inputs c.requires.once in
    let same : length c.in_ok-inputs.inputs ≡ length c.args.flat.now.inputs = ap (λ (l : List (List ℕ)). length l) inputs in
    omega arith

pub returns-in_err-params-clause-fault : goal.returns-in_err-params-clause-fault
returns-in_err-params-clause-fault c =
    let inputs : c.in_ok-inputs.inputs ≡ c.args.flat.now.inputs = c.in_ok-inputs.ensures ∙ ap (with_names []) (c.deref.ensures.value ∙ ap (λ (f : FlatValue). f.inputs) c.flat.view_is) ∙ new_names c.args.flat.now.inputs c.requires.once in
    let clocks : c.in_ok-clocks.clocks ≡ with_names [] c.args.flat.now.clocks = c.in_ok-clocks.ensures ∙ ap (with_names []) (c.deref-2.ensures.value ∙ ap (λ (f : FlatValue). f.clocks) c.flat.view_is) in
    let lines : List WordsLine = map (words_line c.args.text.now) c.args.lines.now in
    passed_err c.from_residual-in_err-params.result c.in_err-params.field-0.0 (OrMemory refusal_of (IsFirstRefusal c.args.flat.now.inputs c.args.flat.now.clocks lines)) c.from_residual-in_err-params.ensures.1
    (OrMemory-map refusal_of (IsFirstRefusal c.in_ok-inputs.inputs c.in_ok-clocks.clocks lines) (IsFirstRefusal c.args.flat.now.inputs c.args.flat.now.clocks lines) c.in_err-params.field-0.0
    (λ e first. subst (λ i. IsFirstRefusal i c.args.flat.now.clocks lines e) inputs (same_first c.in_ok-inputs.inputs c.in_ok-clocks.clocks c.args.flat.now.clocks
    (λ name. ap (λ l. has_name l name) clocks ∙ has_with_names [] c.args.flat.now.clocks name) lines e first)) c.in_err-params.ensures.fault)

pub returns-clause-params : goal.returns-clause-params
returns-clause-params c =
    let inputs : c.in_ok-inputs.inputs ≡ c.args.flat.now.inputs = c.in_ok-inputs.ensures ∙ ap (with_names []) (c.deref.ensures.value ∙ ap (λ (f : FlatValue). f.inputs) c.flat.view_is) ∙ new_names c.args.flat.now.inputs c.requires.once in
    let clocks : c.in_ok-clocks.clocks ≡ with_names [] c.args.flat.now.clocks = c.in_ok-clocks.ensures ∙ ap (with_names []) (c.deref-2.ensures.value ∙ ap (λ (f : FlatValue). f.clocks) c.flat.view_is) in
    let lines : List WordsLine = map (words_line c.args.text.now) c.args.lines.now in
    subst (λ i. AreParamsOf i c.args.flat.now.clocks lines c.in_ok-params.params.items) inputs (same_params c.in_ok-inputs.inputs c.in_ok-clocks.clocks c.args.flat.now.clocks
    (λ name. ap (λ l. has_name l name) clocks ∙ has_with_names [] c.args.flat.now.clocks name) lines c.in_ok-params.params.items c.in_ok-params.ensures.params)
