use Rattle.blif_flat.proofs.Lemmas.{◌∙◌, sym, subst, ap, place_of, Finds, finds}
use Rattle.blif_flat.proofs.model.ports.ModelIndex.find.Goals as goal

pub returns-in-None-clause-model : goal.returns-in-None-clause-model
returns-in-None-clause-model c models e =
    subst (Finds models c.args.name.now) (ap (λ names. place_of names c.args.name.now) (sym e) ∙ sym c.place.ensures ∙ c.in-None.is) (finds models c.args.name.now)

pub returns-in-Some-clause-model : goal.returns-in-Some-clause-model
returns-in-Some-clause-model c models e =
    subst (Finds models c.args.name.now) (ap (λ names. place_of names c.args.name.now) (sym e) ∙ sym c.place.ensures ∙ c.in-Some.is) (finds models c.args.name.now)
