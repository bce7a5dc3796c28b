use Rattle.aig_build.proofs.Lemmas.{◌≡◌, ◌≤◌, ℕ, List, length, drop, get_or, ap, ◌∙◌, subst, rules, In, In-get_or, FlatValue, Aig, NetLitsValue, Built, gate_of, order_of, full_weaker, order_gate_length}
use Rattle.aig_build.proofs.building.make_covers.Goals as goal

pub make_at-requires-clause-there : goal.make_at-requires-clause-there
make_at-requires-clause-there c =
    let items : List ℕ = c.deref-k-items.result.now in
    let same : items ≡ c.args.flat.now.order = c.deref-k-items.ensures.value ∙ ap (λ (f : FlatValue). f.order) c.flat.view_is in
    c.requires.bounds.order_there (get_or items c.loop-k.k-index 0) (subst (λ (ks : List ℕ). In ks (get_or items c.loop-k.k-index 0)) same (In-get_or items c.loop-k.k-index 0 c.loop-k-test.true))

pub returns-in_err-make_at-clause-full : goal.returns-in_err-make_at-clause-full
returns-in_err-make_at-clause-full c =
    let items : List ℕ = c.deref-k-items.result.now in
    let i : ℕ = c.loop-k.k-index in
    let flat : FlatValue = c.args.flat.now in
    let g0 : Aig = c.loop-k.graph in
    let n0 : NetLitsValue = c.loop-k.nets in
    let same : items ≡ flat.order = c.deref-k-items.ensures.value ∙ ap (λ (f : FlatValue). f.order) c.flat.view_is in
    let walked : order_of c.args.library.now flat g0 n0 (drop i items) ≡ order_of c.args.library.now flat c.args.graph.now c.args.nets.now flat.order =
    ap (λ (ks : List ℕ). order_of c.args.library.now flat g0 n0 (drop i ks)) same ∙ c.loop-k.invariant.walked in
    let m : g0.max ≡ c.args.graph.now.max = ap (λ (h : Aig). h.max) c.loop-k.invariant.graph in
    let l : length (gate_of c.args.library.now flat g0 n0 (get_or items i 0)).pairs ≤ length (order_of c.args.library.now flat c.args.graph.now c.args.nets.now flat.order).pairs =
    subst (λ (b : Built). length (gate_of c.args.library.now flat g0 n0 (get_or items i 0)).pairs ≤ length b.pairs) walked (order_gate_length c.args.library.now flat g0 n0 items i 0 c.loop-k-test.true) in
    full_weaker g0.max c.args.graph.now.max _ _ m l (search rules)
