use Rattle.blif_flat.proofs.Lemmas.{◌≡◌, ◌++◌, List, ℕ, ap, ◌∙◌, subst, In, In-left, In-right, ModelValue, most_underscores, most_of_three}
use Rattle.blif_flat.proofs.field.flat_ports.most_underscores.Goals as goal

pub most_of-requires : goal.most_of-requires
most_of-requires c name i =
    let same : c.deref-3.result.now ≡ c.args.model.now.inputs = c.deref-3.ensures.value ∙ ap (λ (m : ModelValue). m.inputs) c.model.view_is in
    c.requires.short name (In-left c.args.model.now.inputs (c.args.model.now.clocks ++ c.args.model.now.outputs) name (subst (λ l. In l name) same i))

pub most_of-requires-2 : goal.most_of-requires-2
most_of-requires-2 c name i =
    let same : c.deref-2.result.now ≡ c.args.model.now.clocks = c.deref-2.ensures.value ∙ ap (λ (m : ModelValue). m.clocks) c.model.view_is in
    c.requires.short name (In-right c.args.model.now.inputs (c.args.model.now.clocks ++ c.args.model.now.outputs) name (In-left c.args.model.now.clocks c.args.model.now.outputs name (subst (λ l. In l name) same i)))

pub most_of-requires-3 : goal.most_of-requires-3
most_of-requires-3 c name i =
    let same : c.deref.result.now ≡ c.args.model.now.outputs = c.deref.ensures.value ∙ ap (λ (m : ModelValue). m.outputs) c.model.view_is in
    c.requires.short name (In-right c.args.model.now.inputs (c.args.model.now.clocks ++ c.args.model.now.outputs) name (In-right c.args.model.now.clocks c.args.model.now.outputs name (subst (λ l. In l name) same i)))

pub returns : goal.returns
returns c =
    let inputs : c.deref-3.result.now ≡ c.args.model.now.inputs = c.deref-3.ensures.value ∙ ap (λ (m : ModelValue). m.inputs) c.model.view_is in
    let clocks : c.deref-2.result.now ≡ c.args.model.now.clocks = c.deref-2.ensures.value ∙ ap (λ (m : ModelValue). m.clocks) c.model.view_is in
    let outputs : c.deref.result.now ≡ c.args.model.now.outputs = c.deref.ensures.value ∙ ap (λ (m : ModelValue). m.outputs) c.model.view_is in
    most_of_three c.deref-3.result.now c.deref-2.result.now c.deref.result.now c.most_of.result c.most_of-2.result c.most_of-3.result c.most_of.ensures c.most_of-2.ensures c.most_of-3.ensures
    ∙ ap (λ (l : List (List ℕ)). most_underscores (l ++ (c.deref-2.result.now ++ c.deref.result.now))) inputs
    ∙ ap (λ (l : List (List ℕ)). most_underscores (c.args.model.now.inputs ++ (l ++ c.deref.result.now))) clocks
    ∙ ap (λ (l : List (List ℕ)). most_underscores (c.args.model.now.inputs ++ (c.args.model.now.clocks ++ l))) outputs
