use Rattle.flow_label.proofs.Lemmas.{◌≡◌, ℕ, ◌+◌, ◌-◌, ◌/◌, List, Option, Some, None, Aig, ◌<◌, ◌≤◌, refl, sym, subst, arith, length, union, node_count, IsNode, Pair, label_at, IsLowCut, IfSome, IfOk-weaker, same_pair, IsFlowCut, IsLowerCut, by_join, by_flow, IsWide, IsLowPart, low_at, FlowValue, known_to, joined_low}
use Rattle.flow_label.proofs.node.lower_cut.Goals as goal

pub returns-in-Some-clause-answer : goal.returns-in-Some-clause-answer
returns-in-Some-clause-answer c =
    let v : FlowValue = record { labels = c.args.labels.now; cuts = c.args.cuts.now } in
    let node : IsNode c.args.graph.now c.pair_at-pair.result c.args.n = record { above = c.requires.node.0; is = c.pair_at-pair.ensures.pair } in
    let same : c.pair_at-pair.result ≡ c.requires.greatest.pair = same_pair c.args.graph.now c.pair_at-pair.result c.requires.greatest.pair c.args.n node c.requires.greatest.node in
    let few : length (union c.low_part-x.result c.low_part-y.result) ≤ c.from.result = subst (λ d. length d ≤ c.from.result) c.in-Some.ensures.0 c.in-Some.ensures.1 in
    subst (λ d. IsLowCut c.args.graph.now c.args.k c.args.n (c.args.p + 1) (label_at c.args.labels.now) d) (sym c.in-Some.ensures.0)
    (joined_low c.args.graph.now c.args.k c.args.n v c.len-count.ensures.normal c.requires.node c.requires.labelled c.args.p c.requires.greatest c.low_part-x.result c.low_part-y.result c.requires.some
    (subst (λ (q : Pair). IsLowPart c.args.graph.now (label_at c.args.labels.now) (low_at c.args.cuts.now) c.args.p (q.x.0 / 2) c.low_part-x.result) same c.low_part-x.ensures)
    (subst (λ (q : Pair). IsLowPart c.args.graph.now (label_at c.args.labels.now) (low_at c.args.cuts.now) c.args.p (q.y.0 / 2) c.low_part-y.result) same c.low_part-y.ensures)
    (omega (arith, few, c.from.ensures)))

pub low_cut_of-requires-clause-known : goal.low_cut_of-requires-clause-known
low_cut_of-requires-clause-known c =
    let v : FlowValue = record { labels = c.args.labels.now; cuts = c.args.cuts.now } in
    let inside : c.args.n < node_count c.args.graph.now = c.requires.node.1 in
    known_to c.args.graph.now c.args.k c.args.n v c.len-count.ensures.normal (omega arith) c.requires.labelled

pub returns-in-Some-clause-low : goal.returns-in-Some-clause-low
returns-in-Some-clause-low c =
    let node : IsNode c.args.graph.now c.pair_at-pair.result c.args.n = record { above = c.requires.node.0; is = c.pair_at-pair.ensures.pair } in
    let few : length c.in-Some.cut ≤ c.from.result = c.in-Some.ensures.1 in
    by_join (record { pair = c.pair_at-pair.result; node = node; x = c.low_part-x.result; y = c.low_part-y.result; x_is = c.low_part-x.ensures; y_is = c.low_part-y.ensures; is = c.in-Some.ensures.0 }) (omega (arith, few, c.from.ensures))

-- what the flow finds where the join is wide
flow_low : (g : Aig) (k : ℕ) (label : ℕ → ℕ) (lows : ℕ → List ℕ) (n p : ℕ) → IsWide g k label lows n p → (o : Option (List ℕ)) → IfSome o (λ cut. IsFlowCut g k label n ((p + 1) - 1) cut) → IfSome o (λ cut. IsLowerCut g k label lows n p cut)
flow_low g k label lows n p w None i = i
flow_low g k label lows n p w (Some c) i = by_flow w (let e : (p + 1) - 1 ≡ p = omega arith in subst (λ q. IsFlowCut g k label n q c) e i)

pub returns-clause-low : goal.returns-clause-low
returns-clause-low c =
    let node : IsNode c.args.graph.now c.pair_at-pair.result c.args.n = record { above = c.requires.node.0; is = c.pair_at-pair.ensures.pair } in
    let over : c.from.result < length (union c.low_part-x.result c.low_part-y.result) = c.in_default.ensures in
    let wide : IsWide c.args.graph.now c.args.k (label_at c.args.labels.now) (low_at c.args.cuts.now) c.args.n c.args.p = record {
      join = union c.low_part-x.result c.low_part-y.result;
      are = record { pair = c.pair_at-pair.result; node = node; x = c.low_part-x.result; y = c.low_part-y.result; x_is = c.low_part-x.ensures; y_is = c.low_part-y.ensures; is = refl };
      wide = omega (arith, over, c.from.ensures);
    } in
    IfOk-weaker c.low_cut_of.result
    (λ (o : Option (List ℕ)). IfSome o (λ cut. IsFlowCut c.args.graph.now c.args.k (label_at c.args.labels.now) c.args.n ((c.args.p + 1) - 1) cut))
    (λ (o : Option (List ℕ)). IfSome o (λ cut. IsLowerCut c.args.graph.now c.args.k (label_at c.args.labels.now) (low_at c.args.cuts.now) c.args.n c.args.p cut))
    (λ o i. flow_low c.args.graph.now c.args.k (label_at c.args.labels.now) (low_at c.args.cuts.now) c.args.n c.args.p wide o i)
    c.low_cut_of.ensures.low
