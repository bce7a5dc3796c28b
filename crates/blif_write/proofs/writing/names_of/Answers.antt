use Rattle.blif_write.proofs.Lemmas.{◌≡◌, ℕ, ◌≤◌, ◌<◌, List, [], not, length, map, get_or, ap, sym, subst, ◌∙◌, arith, length-filter_le, Shape, FlatValue, has_name, ParamsValue, param_names, regular_names, naming_of, placed_names, placed_within, placed_count, same_naming, same_shape}
use Rattle.blif_write.proofs.writing.names_of.Goals as goal

pub overflow_cast-regular : goal.overflow_cast-regular
overflow_cast-regular c =
    let names : List (List ℕ) = regular_names c.args.flat.now c.args.params.now.list in
    let count : length c.args.regular.now ≡ length names = placed_count c.args.flat.now.inputs c.args.regular.now names c.requires.places in
    let few : length names ≤ length c.args.flat.now.inputs = length-filter_le (λ (name : List ℕ). not (has_name (param_names c.args.params.now.list) name)) c.args.flat.now.inputs in
    omega (arith, count, few, c.requires.few_inputs)

pub invariant_of-result : goal.invariant_of-result
invariant_of-result c =
    let names : List (List ℕ) = regular_names c.args.flat.now c.args.params.now.list in
    let inputs : c.args.flat.now.inputs ≡ c.deref.result.now = sym (c.deref.ensures.value ∙ ap (λ (f : FlatValue). f.inputs) c.flat.view_is) in
    (λ i h. subst (λ (xs : List (List ℕ)). i < length xs) inputs (placed_within c.args.flat.now.inputs c.args.regular.now names c.requires.places i h), ap (λ (s : Shape). s.regular) c.new.ensures.value)

pub returns : goal.returns
returns c =
    let names : List (List ℕ) = regular_names c.args.flat.now c.args.params.now.list in
    let inputs : c.args.flat.now.inputs ≡ c.deref.result.now = sym (c.deref.ensures.value ∙ ap (λ (f : FlatValue). f.inputs) c.flat.view_is) in
    same_naming _ (naming_of c.args.flat.now c.args.params.now.list) (ap (λ (f : FlatValue). f.under) c.flat.view_is)
    (ap (λ (xs : List (List ℕ)). map (λ (i : ℕ). get_or xs i []) c.args.regular.now) (sym inputs) ∙ placed_names c.args.flat.now.inputs c.args.regular.now names c.requires.places)
    (same_shape _ _ (ap (λ (s : Shape). s.regular) c.new.ensures.value ∙ placed_count c.args.flat.now.inputs c.args.regular.now names c.requires.places)
    (ap (λ (s : Shape). s.params) c.new.ensures.value ∙ c.len.ensures ∙ c.params.inside.list.ok.0 ∙ ap (λ (p : ParamsValue). length p.list) c.params.view_is)
    (ap (λ (s : Shape). s.latches) c.new.ensures.value ∙ c.len-2.ensures ∙ c.flat.inside.latches.ok.0 ∙ ap (λ (f : FlatValue). length f.latches) c.flat.view_is))
