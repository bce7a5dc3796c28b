use Rattle.bounded_cuts.proofs.Common.{◌≡◌, ◌≤◌, take, label_at, MOST_FLOW, cuts_within, least_flow, Pricing, ArePriced, cuts_at}
use Rattle.bounded_cuts.proofs.sets.least_low_flow.Given as goal

abbrev pub invariant-loop-i : goal.invariant-loop-i
invariant-loop-i l = record {
  value : (p : Pricing) → ArePriced p l.candidates → l.least ≡ least_flow p.lows (cuts_within (label_at p.labels) l.label (cuts_at l.candidates (take l.i-index l.taken)));
  capped : l.least ≤ MOST_FLOW;
}
