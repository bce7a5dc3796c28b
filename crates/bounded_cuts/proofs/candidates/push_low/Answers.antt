use Rattle.bounded_cuts.proofs.Lemmas.{rules, ◌<◌, ℕ, List, [], ◌∷◌, ◌++◌, length, refl, ap, ◌∙◌, subst, arith, length-append, In, Candidate, cuts_of, as_low, none_low, map-append, priced_push}
use Rattle.bounded_cuts.proofs.candidates.push_low.Goals as goal

pub returns-in_ok-push-clause-low : goal.returns-in_ok-push-clause-low
returns-in_ok-push-clause-low c = none_low (subst (λ (l : List Candidate). (d : Candidate) → In l d → c.args.label < d.height) c.deref.ensures.value (c.has_low.ensures.no (search rules)))
    (ap cuts_of c.in_ok-push.ensures.items ∙ map-append (λ (d : Candidate). d.cut) c.args.all.now.items (c.price.result ∷ []) ∙ ap (λ (d : List ℕ). cuts_of c.args.all.now.items ++ d ∷ []) c.price.ensures.cut)

pub returns-in_ok-push-clause-priced : goal.returns-in_ok-push-clause-priced
returns-in_ok-push-clause-priced c are d m = priced_push c.args.prices.now.worths.now c.args.all.now.items c.price.result c.price.ensures.priced are d (subst (λ (l : List Candidate). In l d) c.in_ok-push.ensures.items m)

pub returns-in_ok-push-clause-few : goal.returns-in_ok-push-clause-few
returns-in_ok-push-clause-few c = omega (arith, ap length c.in_ok-push.ensures.items, length-append c.args.all.now.items (c.price.result ∷ []))

pub returns-else-not-has_low-clause-low : goal.returns-else-not-has_low-clause-low
returns-else-not-has_low-clause-low c =
    let some = c.has_low.ensures.yes (search rules) in
    as_low some.0 (subst (λ (l : List Candidate). In l some.0) c.deref.ensures.value some.1) some.2 refl
