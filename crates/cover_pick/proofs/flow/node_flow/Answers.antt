use Rattle.cover_pick.proofs.Lemmas.{◌≡◌, ◌/◌, ◌∙◌, ℕ, List, max, ltb, ap, arith, div-le_self, ltb-true, first_and, choose, row_at, label_at, least_flow, allowed_row, least_capped}
use Rattle.cover_pick.proofs.flow.node_flow.Goals as goal

pub returns-clause-value : goal.returns-clause-value
returns-clause-value c =
    let label : ℕ → ℕ = label_at c.args.labels.now in
    let row : List (List ℕ) = allowed_row c.args.scope label (label c.args.n) (row_at c.args.rows.now c.args.n) in
    let flows : List ℕ = c.args.flows.now in
    let n : ℕ = c.args.n in
    let count : c.max.result ≡ max 1 c.args.count = omega arith in
    choose (λ v. c.least_flow.result / c.max.result ≡ v) (ltb n (first_and c.args.graph.now)) 0 (least_flow flows row / max 1 c.args.count)
    (λ t. absurd (let l = ltb-true n (first_and c.args.graph.now) t in omega arith))
    (λ _. ap (λ v. v / c.max.result) c.least_flow.ensures ∙ ap (λ v. least_flow flows row / v) count)

pub returns-clause-capped : goal.returns-clause-capped
returns-clause-capped c =
    let label : ℕ → ℕ = label_at c.args.labels.now in
    let row : List (List ℕ) = allowed_row c.args.scope label (label c.args.n) (row_at c.args.rows.now c.args.n) in
    omega (arith, least_capped c.args.flows.now row, div-le_self c.least_flow.result c.max.result, c.least_flow.ensures)
