use Rattle.bounded_cuts.proofs.Lemmas.{sym, subst, In, In-get_or, cuts_of, unions_next}
use Rattle.bounded_cuts.proofs.candidates.push_unions.Goals as goal

pub push_unions_with-requires-clause-c_counted : goal.push_unions_with-requires-clause-c_counted
push_unions_with-requires-clause-c_counted c = c.requires.x_counted c.c-item.result (subst (In c.args.x_front.now) (sym c.c-item.is) (In-get_or c.args.x_front.now c.loop-c.c-index c.c-item.result c.loop-c-test.true))

pub loop-c-preserved : goal.loop-c-preserved
loop-c-preserved c = record {
  cuts = unions_next c.args.k c.args.x_front.now c.args.y_front.now c.loop-c.c-index c.c-item.result (cuts_of c.args.all.now.items) (cuts_of c.loop-c.all.items) (cuts_of c.push_unions_with.new.all.items) c.loop-c-test.true c.c-item.is c.loop-c.invariant.cuts c.in_ok-push_unions_with.ensures.cuts;
  priced = λ are. c.in_ok-push_unions_with.ensures.priced (c.loop-c.invariant.priced are);
}
