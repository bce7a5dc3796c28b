use Rattle.run_text.proofs.Common.{◌≡◌, ℕ, List, [], length, ap, ◌∙◌, arith, with_names, new_names, NamesValue}
use Rattle.run_text.proofs.script_lines.read_lines.Goals as goal

pub read_each-requires-clause-few : goal.read_each-requires-clause-few
read_each-requires-clause-few c =
    let params : c.in_ok-params.params ≡ c.args.names.now.params = c.in_ok-params.ensures ∙ ap (with_names []) (c.deref.ensures.value ∙ ap (λ (n : NamesValue). n.params) c.names.view_is) ∙ new_names c.args.names.now.params c.requires.once in
    omega (arith, ap (λ (l : List (List ℕ)). length l) params, c.requires.few)

pub read_each-requires-clause-same : goal.read_each-requires-clause-same
read_each-requires-clause-same c = c.in_ok-params.ensures ∙ ap (with_names []) (c.deref.ensures.value ∙ ap (λ (n : NamesValue). n.params) c.names.view_is) ∙ new_names c.args.names.now.params c.requires.once
