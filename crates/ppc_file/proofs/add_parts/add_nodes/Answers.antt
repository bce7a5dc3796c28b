use Rattle.ppc_file.proofs.Lemmas.{◌≡◌, ℕ, ◌+◌, ◌-◌, Some, sym, ap, ◌∙◌, arith, slice_get, first_and, node_bytes, added_as, added_more, next_node}
use Rattle.ppc_file.proofs.add_parts.add_nodes.Goals as goal

pub loop-number-preserved : goal.loop-number-preserved
loop-number-preserved g c =
    let first : ℕ = first_and c.args.graph.now in
    let number : ℕ = c.loop-number.number in
    let node : 1 + c.sources-first.result + number ≡ first + number = ap (λ (s : ℕ). 1 + s + number) c.sources-first.ensures.count in
    let place : 1 + c.sources-first.result + number - first ≡ number = omega (arith, c.sources-first.ensures.count) in
    let there : slice_get c.args.graph.now.pairs number ≡ Some c.pair_at.result = ap (slice_get c.args.graph.now.pairs) (sym place) ∙ c.pair_at.ensures.pair in
    added_more c.loop-number.invariant _ _ (next_node c.args.version first number c.args.graph.now.pairs c.pair_at.result there)
    (added_as (ap (λ (n : ℕ). node_bytes c.args.version n c.pair_at.result) node) c.add_node.ensures)
