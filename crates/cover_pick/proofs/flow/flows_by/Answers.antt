use Rattle.cover_pick.proofs.Lemmas.{◌≡◌, ◌∙◌, ◌+◌, ◌++◌, ◌∷◌, ℕ, List, [], suc, sym, ap, subst, arith, node_count, label_at, node_flow, flows_below, AreCapped, count_at, AreFlows, Scope, flows_capped, flows_fit, node_same}
use Rattle.cover_pick.proofs.flow.flows_by.Goals as goal

pub node_flow-flow-requires : goal.node_flow-flow-requires
node_flow-flow-requires c =
    subst (λ (s : List ℕ). AreCapped s) (sym (c.deref.ensures.value ∙ c.loop-n.invariant)) (flows_capped c.args.graph.now c.args.scope (label_at c.args.labels.now) c.args.rows.now (count_at c.args.counts.now) c.loop-n.n)

pub loop-n-preserved : goal.loop-n-preserved
loop-n-preserved c =
    let g = c.args.graph.now in
    let scope : Scope = c.args.scope in
    let label : ℕ → ℕ = label_at c.args.labels.now in
    let rows : List (List (List ℕ)) = c.args.rows.now in
    let counts : ℕ → ℕ = count_at c.args.counts.now in
    let n : ℕ = c.loop-n.n in
    let flow : c.node_flow-flow.result ≡ node_flow g scope label rows counts (flows_below g scope label rows counts n) n =
    c.node_flow-flow.ensures.value ∙ (node_same g scope label rows (λ _. c.count_of.result) counts c.deref.result.now n c.count_of.ensures ∙ ap (λ s. node_flow g scope label rows counts s n) (c.deref.ensures.value ∙ c.loop-n.invariant)) in
    let next : suc n ≡ n + 1 = omega arith in
    c.in_ok-push.ensures.items ∙ (ap (λ s. s ++ c.node_flow-flow.result ∷ []) c.loop-n.invariant ∙ (ap (λ x. flows_below g scope label rows counts n ++ x ∷ []) flow ∙ ap (λ k. flows_below g scope label rows counts k) next))

pub returns-clause-fit : goal.returns-clause-fit
returns-clause-fit c =
    let g = c.args.graph.now in
    let label : ℕ → ℕ = label_at c.args.labels.now in
    let all : c.loop-n.n ≡ node_count g = omega arith in
    subst (λ (s : List ℕ). AreFlows g s) (sym (c.loop-n.invariant ∙ ap (λ k. flows_below g c.args.scope label c.args.rows.now (count_at c.args.counts.now) k) all)) (flows_fit g c.args.scope label c.args.rows.now (count_at c.args.counts.now))
