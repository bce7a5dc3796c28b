use Rattle.aiger_io.proofs.Common.{◌≡◌, ℕ, List, length, [], ap, ◌∙◌, slice_index_or, FlatValue, OutPort, ParamsValue, Param, added_as, added_twice, numbered_text, symbol_text}
use Rattle.aiger_io.proofs.written_text.add_symbols.Goals as goal

pub returns : goal.returns
returns g c =
    let inputs : c.deref.result.now ≡ c.args.flat.now.inputs = c.deref.ensures.value ∙ ap (λ (f : FlatValue). f.inputs) c.flat.view_is in
    let params : c.deref-2.result.now ≡ c.args.params.now.list = c.deref-2.ensures.value ∙ ap (λ (p : ParamsValue). p.list) c.params.view_is in
    let outputs : c.deref-3.result.now ≡ c.args.flat.now.outputs = c.deref-3.ensures.value ∙ ap (λ (f : FlatValue). f.outputs) c.flat.view_is in
    added_twice (added_as (ap (λ (names : List (List ℕ)). numbered_text (λ k i. symbol_text 105 k (slice_index_or names i [])) 0 c.args.regular.now) inputs) c.add_regular.ensures)
    (added_twice (added_as (ap (numbered_text (λ k (p : Param). symbol_text 105 k p.name) (length c.args.regular.now)) params) c.add_params.ensures)
    (added_as (ap (numbered_text (λ k (o : OutPort). symbol_text 111 k o.name) 0) outputs) c.add_names.ensures))
