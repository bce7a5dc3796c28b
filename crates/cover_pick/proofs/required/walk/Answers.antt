use Rattle.cover_pick.proofs.Lemmas.{arith, ◌∙◌, ◌+◌, ◌-◌, ◌≡◌, ℕ, suc, List, Option, length, ap, subst, sym, slice_set, first_and, node_count, row_at, label_at, choice_by, found_in, found_from, need, walk_by, met_at, found_for, AreBestPlaces, ArePlacedFrom, walk_step, met_now, met_later, places_next}
use Rattle.cover_pick.proofs.required.walk.Goals as goal

pub loop-i-init : goal.loop-i-init
loop-i-init c =
    let g = c.args.graph.now in
    let by : List (Option ℕ) → ℕ → ℕ → List ℕ = choice_by c.args.rule c.args.rows.now (label_at c.args.labels.now) c.args.flows.now in
    let all : length g.pairs - 0 ≡ length g.pairs = omega arith in
    let end : node_count g ≡ first_and g + (length g.pairs - 0) = omega arith in
    record {
      reqs = ap (λ j. walk_by by (first_and g) j c.args.reqs.now) all;
      met = λ j l. ap (λ k. met_at by (first_and g) k c.args.reqs.now (first_and g + j)) all;
      places = subst (λ j. ArePlacedFrom c.args.rule g c.args.rows.now c.args.labels.now c.args.flows.now c.args.reqs.now c.args.reqs.now j c.args.places.now) end c.requires.places;
    }

pub loop-i-preserved : goal.loop-i-preserved
loop-i-preserved c =
    let g = c.args.graph.now in
    let rows = c.args.rows.now in
    let label : ℕ → ℕ = label_at c.args.labels.now in
    let by : List (Option ℕ) → ℕ → ℕ → List ℕ = choice_by c.args.rule rows label c.args.flows.now in
    let found : ℕ → ℕ → Option (List ℕ) = found_from c.args.rule g rows label c.args.flows.now c.args.reqs.now in
    let m : ℕ = length g.pairs - c.loop-i.i in
    let j : ℕ = length g.pairs - (c.loop-i.i + 1) in
    let n : ℕ = c.sources-first.result + 1 + (c.len.result - (c.sources-first.result + 1) - 1 - c.loop-i.i) in
    let here : n ≡ first_and g + j = omega arith in
    let next : m ≡ suc j = omega arith in
    let now : met_at by (first_and g) (length g.pairs) c.args.reqs.now n ≡ c.loop-i.reqs =
    subst (λ x. met_at by (first_and g) (length g.pairs) c.args.reqs.now x ≡ met_at by (first_and g) m c.loop-i.reqs x) (sym here) (sym (c.loop-i.invariant.met j (omega arith))) ∙ met_now by (first_and g) m j n c.loop-i.reqs next here in
    record {
      reqs = walk_step by (first_and g) m j n c.loop-i.reqs c.visit.new.reqs next here c.visit.ensures.reqs ∙ c.loop-i.invariant.reqs;
      met = λ i l. met_later by (first_and g) m j n i c.loop-i.reqs c.visit.new.reqs next here c.visit.ensures.reqs l ∙ c.loop-i.invariant.met i (omega arith);
      places = subst (λ x. AreBestPlaces g rows found c.visit.new.reqs x (slice_set c.loop-i.places n c.visit.result)) here
          (places_next g rows found c.loop-i.reqs c.visit.new.reqs n (first_and g + m) c.loop-i.places c.visit.result (omega arith) (omega arith)
          c.loop-i.invariant.places c.visit.ensures.above
          (c.visit.ensures.best ∙ ap (λ s. found_for (found_in c.args.rule label c.args.flows.now s (row_at rows n)) (need c.loop-i.reqs n)) (sym now)) c.visit.ensures.inside);
    }

pub returns-clause-places : goal.returns-clause-places
returns-clause-places c =
    let g = c.args.graph.now in
    let none : first_and g + (length g.pairs - c.loop-i.i) ≡ first_and g = omega arith in
    subst (λ j. ArePlacedFrom c.args.rule g c.args.rows.now c.args.labels.now c.args.flows.now c.args.reqs.now c.loop-i.reqs j c.loop-i.places) none c.loop-i.invariant.places
