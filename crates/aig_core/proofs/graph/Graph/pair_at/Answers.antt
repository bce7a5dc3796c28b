use Rattle.aig_core.proofs.Common.{arith, ◌≡◌, ℕ, ◌-◌, ◌+◌, ◌<◌, List, length, get_or, ap, subst, sym, slice_get-get_or, Pair, Aig, IsNormal}
use Rattle.aig_core.proofs.graph.Graph.pair_at.Goals as goal

pub returns-clause-normal : goal.returns-clause-normal
returns-clause-normal c =
    let ks : length c.self.inside.kinds.items ≡ length c.args.self.now.kinds = ap (λ (v : Aig). length v.kinds) c.self.view_is in
    let ps : length c.self.inside.pairs.keys ≡ length c.args.self.now.pairs = ap (λ (v : Aig). length v.pairs) c.self.view_is in
    let i : ℕ = c.args.n - 1 - c.len.result in
    let within : i < length c.self.inside.pairs.keys = omega arith in
    let at : 1 + length c.self.inside.kinds.items + i ≡ c.args.n = omega arith in
    let other : Pair = record { x = record { 0 = 0 }; y = record { 0 = 0 } } in
    subst (λ (pairs : List Pair). IsNormal c.args.n (get_or pairs i other)) (sym c.as_slice.ensures.keys)
    (subst (λ m. IsNormal m (get_or c.self.inside.pairs.keys i other)) at
    (c.self.invariant.normal.each i (get_or c.self.inside.pairs.keys i other) (slice_get-get_or c.self.inside.pairs.keys i other within)))
