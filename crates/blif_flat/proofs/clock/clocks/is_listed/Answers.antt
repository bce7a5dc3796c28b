use Rattle.blif_flat.proofs.Lemmas.{◌≡◌, ◌∙◌, length, ltb, sym, ap, place_of, ModelValue, Ports, unlisted, listed_at}
use Rattle.blif_flat.proofs.clock.clocks.is_listed.Goals as goal

pub returns-in-None : goal.returns-in-None
returns-in-None c =
    sym (unlisted c.args.model.now c.args.name.now (ap (λ (p : Ports). place_of p.inputs c.args.name.now) (sym c.requires) ∙ sym c.input_place.ensures ∙ c.in-None.is))

pub returns-in-Some : goal.returns-in-Some
returns-in-Some c =
    let count : c.len.result ≡ length c.args.model.now.inputs = c.len.ensures ∙ c.model.inside.inputs.ok.0 ∙ ap (λ (m : ModelValue). length m.inputs) c.model.view_is in
    ap (ltb c.in-Some.place) count
    ∙ listed_at c.args.model.now c.args.name.now c.in-Some.place (ap (λ (p : Ports). place_of p.inputs c.args.name.now) (sym c.requires) ∙ sym c.input_place.ensures ∙ c.in-Some.is)
