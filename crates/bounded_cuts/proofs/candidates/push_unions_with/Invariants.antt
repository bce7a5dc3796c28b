use Rattle.bounded_cuts.proofs.Common.{◌≡◌, ◌++◌, take, unions_with, cuts_of, ArePricedBy}
use Rattle.bounded_cuts.proofs.candidates.push_unions_with.Given as goal

abbrev pub invariant-loop-d : goal.invariant-loop-d
invariant-loop-d l = record {
  cuts : cuts_of l.all.items ≡ cuts_of l.fn.all.items ++ unions_with l.k l.c (take l.d-index l.front);
  priced : ArePricedBy l.prices.worths.now l.fn.all.items → ArePricedBy l.prices.worths.now l.all.items;
}
