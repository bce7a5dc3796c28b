use Rattle.bounded_cuts.proofs.Common.{◌≡◌, ◌≤◌, take, MOST_FLOW, least_flow, Pricing, ArePriced, cuts_at}
use Rattle.bounded_cuts.proofs.sets.least_flow.Given as goal

abbrev pub invariant-loop-i : goal.invariant-loop-i
invariant-loop-i l = record {
  value : (p : Pricing) → ArePriced p l.candidates → l.least ≡ least_flow p.flows (cuts_at l.candidates (take l.i-index l.taken));
  capped : l.least ≤ MOST_FLOW;
}
