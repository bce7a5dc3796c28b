use Rattle.aig_core.proofs.Common.{◌≡◌, ◌∙◌, ◌≤◌, List, Bool, [], ◌∷◌, false, ap, drop, length, subst, sym, drop_past, Pair, Aig, AreNormal, first_and, FitsGraph}
use Rattle.aig_core.proofs.FitLemmas.{fits_values_of}
use Rattle.aig_core.proofs.ValueLemmas.{values_from, values_of}
use Rattle.aig_core.proofs.graph.Graph.node_values.Goals as goal

pub returns-clause-fits : goal.returns-clause-fits
returns-clause-fits c =
    let pairs : List Pair = c.as_slice-pair-items.result.now in
    let past : length pairs ≤ c.loop-pair.pair-index = c.loop-pair-test.false in
    let done : drop c.loop-pair.pair-index pairs ≡ [] = drop_past pairs c.loop-pair.pair-index past in
    let same : pairs ≡ c.args.self.now.pairs = c.as_slice-pair-items.ensures.keys ∙ ap (λ (g : Aig). g.pairs) c.self.view_is in
    let all : c.loop-pair.values.items ≡ values_of c.args.self.now c.args.sources.now =
    ap (values_from c.loop-pair.values.items) (sym done) ∙ c.loop-pair.invariant.same ∙ ap (values_from (false ∷ c.args.sources.now)) same in
    let normal : AreNormal (first_and c.args.self.now) c.args.self.now.pairs = subst (λ (g : Aig). AreNormal (first_and g) g.pairs) c.self.view_is c.self.invariant.normal in
    subst (λ (vs : List Bool). FitsGraph c.args.self.now c.args.sources.now vs) (sym all) (fits_values_of c.args.self.now c.args.sources.now normal c.requires)
