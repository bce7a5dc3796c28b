use Rattle.cover_pick.proofs.Common.{◌≡◌, ◌≤◌, min, drop, row_at, label_at, MOST_FLOW, least_flow, allowed_row}
use Rattle.cover_pick.proofs.flow.least_flow.Given as goal

abbrev pub invariant-loop-i : goal.invariant-loop-i
invariant-loop-i l = record {
  rest : min l.least (least_flow l.flows (allowed_row l.scope (label_at l.labels) (label_at l.labels l.n) (drop l.i (row_at l.rows l.n)))) ≡ least_flow l.flows (allowed_row l.scope (label_at l.labels) (label_at l.labels l.n) (row_at l.rows l.n));
  capped : l.least ≤ MOST_FLOW;
}
