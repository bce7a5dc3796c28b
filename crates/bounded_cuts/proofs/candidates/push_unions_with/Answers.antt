use Rattle.bounded_cuts.proofs.Lemmas.{sym, subst, In, In-get_or, cuts_of, with_next}
use Rattle.bounded_cuts.proofs.candidates.push_unions_with.Goals as goal

pub push_union-requires-clause-d_counted : goal.push_union-requires-clause-d_counted
push_union-requires-clause-d_counted c = c.requires.front_counted c.d-item.result (subst (In c.args.front.now) (sym c.d-item.is) (In-get_or c.args.front.now c.loop-d.d-index c.d-item.result c.loop-d-test.true))

pub loop-d-preserved : goal.loop-d-preserved
loop-d-preserved c = record {
  cuts = with_next c.args.k c.args.c.now c.args.front.now c.loop-d.d-index c.d-item.result (cuts_of c.args.all.now.items) (cuts_of c.loop-d.all.items) (cuts_of c.push_union.new.all.items) c.loop-d-test.true c.d-item.is c.loop-d.invariant.cuts c.in_ok-push_union.ensures.cuts;
  priced = λ are. c.in_ok-push_union.ensures.priced (c.loop-d.invariant.priced are);
}
