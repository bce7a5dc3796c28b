use Rattle.tlut_host.proofs.Lemmas.{ℕ, List, length, sym, ap, ◌∙◌, subst, AreAssigned, Assign, settings_fit}
use Rattle.tlut_host.proofs.host.NamedSpecialiser.set.Goals as goal

pub change_with-requires-clause-assigns : goal.change_with-requires-clause-assigns
change_with-requires-clause-assigns c =
    let params = length c.values-params.result.now in let done = c.if-status-eq-DONE.true in
    subst (λ (n : ℕ). AreAssigned n c.deref.result.now) (ap length c.values-params.ensures.value)
    (subst (λ (xs : List Assign). AreAssigned params xs) (sym (c.deref.ensures.value ∙ c.gather-status.ensures.are done)) (settings_fit params c.args.settings.now (sym c.gather-status.ensures.status ∙ done)))
