use Rattle.aig_core.proofs.Common.{arith, sym, length, ◌+◌, ◌≡◌, ap, None, position, Aig, IsNormal, is_pair, Pair}
use Rattle.aig_core.proofs.Keeping.{Keeps-push}
use Rattle.aig_core.proofs.graph.Graph.and_in_order.Goals as goal

pub invariant_of-self-in-None : goal.invariant_of-self-in-None
invariant_of-self-in-None c =
    let ks : length c.self.inside.kinds.items ≡ length c.args.self.now.kinds = ap (λ (v : Aig). length v.kinds) c.self.view_is in
    let ps : length c.self.inside.pairs.keys ≡ length c.args.self.now.pairs = ap (λ (v : Aig). length v.pairs) c.self.view_is in
    let q : Pair = record { x = record { 0 = c.args.x }; y = record { 0 = c.args.y } } in
    let normal : IsNormal (1 + length c.self.inside.kinds.items + length c.self.inside.pairs.keys) q = record { no_constant = omega arith; ordered = omega arith; below = omega arith } in
    let fresh : position (is_pair q.x.0 q.y.0) c.self.inside.pairs.keys ≡ None = sym c.in-None.ensures in
    rw c.in_ok-push_new-in-None.ensures.keys
    (Keeps-push c.self.inside.kinds.items c.self.inside.pairs.keys c.self.inside.max q c.self.invariant (λ e. omega arith) fresh normal)
