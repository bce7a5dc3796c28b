use Rattle.blif_flat.proofs.Common.{◌≡◌, [], ◌∷◌, ap, sym, ◌∙◌, CoverValue, with_name, with_names, with_names-append}
use Rattle.blif_flat.proofs.circuit.nets.with_cover.Goals as goal

pub returns : goal.returns
returns c =
    let inputs : c.in_ok-all.all ≡ with_names c.args.index c.args.cover.now.inputs = c.in_ok-all.ensures ∙ ap (with_names c.args.index) (c.deref.ensures.value ∙ ap (λ (r : CoverValue). r.inputs) c.cover.view_is) in
    let output : c.bytes.result.now ≡ c.args.cover.now.output = c.bytes.ensures ∙ ap (λ (r : CoverValue). r.output) c.cover.view_is in
    c.in_ok-add_once.ensures.ok ∙ ap (λ names. with_name names c.bytes.result.now) inputs ∙ ap (with_name (with_names c.args.index c.args.cover.now.inputs)) output
    ∙ sym (with_names-append c.args.index c.args.cover.now.inputs (c.args.cover.now.output ∷ []))
