use Rattle.cover_pick.proofs.Lemmas.{ℕ, List, ◌≤◌, arith, row_at, label_at, MOST_FLOW, least_flow, allowed_row, least_capped, allowed_next, allowed_end}
use Rattle.cover_pick.proofs.flow.least_flow.Goals as goal

pub loop-i-init : goal.loop-i-init
loop-i-init c =
    let row : List (List ℕ) = allowed_row c.args.scope (label_at c.args.labels.now) (label_at c.args.labels.now c.args.n) (row_at c.args.rows.now c.args.n) in
    let a : least_flow c.args.flows.now (allowed_row c.args.scope (label_at c.args.labels.now) (label_at c.args.labels.now c.args.n) (row_at c.args.rows.now c.args.n)) ≤ MOST_FLOW =
    least_capped c.args.flows.now row in
    record { rest = omega arith; capped = omega arith }

pub loop-i-preserved : goal.loop-i-preserved
loop-i-preserved c =
    let row : List (List ℕ) = row_at c.args.rows.now c.args.n in
    record {
      rest = allowed_next c.args.scope (label_at c.args.labels.now) c.args.n c.args.flows.now row c.loop-i.i c.loop-i.least
          (least_flow c.args.flows.now (allowed_row c.args.scope (label_at c.args.labels.now) (label_at c.args.labels.now c.args.n) row)) c.allowed_flow.result c.min-least.result (omega arith) c.loop-i.invariant.rest c.allowed_flow.ensures (omega arith);
      capped = omega arith;
    }

pub returns : goal.returns
returns c =
    let row : List (List ℕ) = row_at c.args.rows.now c.args.n in
    allowed_end c.args.scope (label_at c.args.labels.now) c.args.n c.args.flows.now row c.loop-i.i c.loop-i.least (least_flow c.args.flows.now (allowed_row c.args.scope (label_at c.args.labels.now) (label_at c.args.labels.now c.args.n) row)) (omega arith) c.loop-i.invariant.capped c.loop-i.invariant.rest
