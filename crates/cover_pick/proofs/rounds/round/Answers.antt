use Rattle.cover_pick.proofs.Common.{◌∙◌, List, ℕ, IfOk, sym, subst, LeastCost, AreFlows, AreCutsBy}
use Rattle.cover_pick.proofs.rounds.round.Goals as goal

pub cuts_by-requires-clause-flows : goal.cuts_by-requires-clause-flows
cuts_by-requires-clause-flows c = subst (λ (s : List ℕ). AreFlows c.args.choices.now.graph.now s) (sym c.deref.ensures.value) c.in_ok-flows.ensures.fit

pub returns : goal.returns
returns c = subst (λ (s : List ℕ). IfOk c.cuts_by.result (AreCutsBy LeastCost c.args.choices.now s)) (c.deref.ensures.value ∙ c.in_ok-flows.ensures.value) c.cuts_by.ensures
