use Rattle.bounded_cuts.proofs.Lemmas.{List, subst, In, Candidate, priced_push, union_counted}
use Rattle.bounded_cuts.proofs.candidates.push_union.Goals as goal

pub price-requires-clause-counted : goal.price-requires-clause-counted
price-requires-clause-counted c = union_counted c.args.prices.now.worths.now c.args.c.now c.args.d.now c.in-Some.cut c.requires.c_counted c.requires.d_counted c.in-Some.ensures.0

pub returns-in_ok-push-clause-priced : goal.returns-in_ok-push-clause-priced
returns-in_ok-push-clause-priced c are d m = priced_push c.args.prices.now.worths.now c.args.all.now.items c.price.result c.price.ensures.priced are d (subst (λ (l : List Candidate). In l d) c.in_ok-push.ensures.items m)
