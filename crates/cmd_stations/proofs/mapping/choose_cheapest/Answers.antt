use Rattle.cmd_stations.proofs.Lemmas.{roots_of, IsTooMuch, IsUnchosen, work, LeastCost, Sets, refl, sym, subst, subst₂, ◌≡◌, ℕ, List, Aig, label_at, AreLeastHeights, AreLowsOf, passed_stop, settled_anyway, least_mapping, one_of_flow, supply_settled, work_is, differ}
use Rattle.bounded_cuts.specs.Making.{AreLows, low_in}
use Rattle.cover_pick.specs.Refusals.{refusal_of as pick_refusal}
use Rattle.cmd_stations.specs.Mapped as mapped
use Rattle.cmd_stations.proofs.mapping.choose_cheapest.Goals as goal

-- the labels and the low cuts as they are read
seen_heights : (g : Aig) (k : ℕ) (labels seen : List ℕ) → seen ≡ labels → AreLeastHeights g k (label_at labels) → AreLeastHeights g k (label_at seen)
seen_heights g k labels seen e heights = subst (λ (l : List ℕ). AreLeastHeights g k (label_at l)) (sym e) heights

seen_lows : (g : Aig) (k : ℕ) (labels seen : List ℕ) (lows cuts : List (List ℕ)) → seen ≡ labels → cuts ≡ lows → AreLowsOf g k (label_at labels) (low_in lows) → AreLowsOf g k (label_at seen) (low_in cuts)
seen_lows g k labels seen lows cuts e f are = subst₂ (λ (l : List ℕ) (cs : List (List ℕ)). AreLowsOf g k (label_at l) (low_in cs)) (sym e) (sym f) are

seen_cuts : (g : Aig) (k : ℕ) (labels seen : List ℕ) (lows cuts : List (List ℕ)) → seen ≡ labels → cuts ≡ lows → AreLows g k (label_at labels) lows → AreLows g k (label_at seen) cuts
seen_cuts g k labels seen lows cuts e f are = subst₂ (λ (l : List ℕ) (cs : List (List ℕ)). AreLows g k (label_at l) cs) (sym e) (sym f) are

pub pick_compact-picked-requires-clause-labels : goal.pick_compact-picked-requires-clause-labels
pick_compact-picked-requires-clause-labels c = seen_heights c.args.graph.now c.args.k c.in_ok-labels.labels.labels c.labels.result.now c.labels.ensures c.in_ok-labels.ensures.heights

pub pick_compact-picked-requires-clause-lows : goal.pick_compact-picked-requires-clause-lows
pick_compact-picked-requires-clause-lows c =
    let v = c.in_ok-labels.labels in
    seen_cuts c.args.graph.now c.args.k v.labels c.labels.result.now v.cuts c.low_cuts.result.now c.labels.ensures c.low_cuts.ensures (record { cut = c.in_ok-labels.ensures.cuts.cut; low = c.in_ok-labels.ensures.cuts.met })

pub returns-in_err-template-clause-err : goal.returns-in_err-template-clause-err
returns-in_err-template-clause-err c =
    passed_stop pick_refusal (λ _. IsTooMuch (Sets c.args.k (low_in c.low_cuts.result.now)) c.args.graph.now (label_at c.labels.result.now) (roots_of c.args.roots.now)) (IsUnchosen LeastCost c.args.graph.now c.args.k c.args.roots.now)
    c.from_residual-in_err-template.result c.in_err-template.field-0.0 c.in_err-template.ensures.work c.from_residual-in_err-template.ensures.1
    (λ r told much. work
    (record {
      label = label_at c.labels.result.now;
      supply = Sets c.args.k (low_in c.low_cuts.result.now);
      has = mapped.HasSupply.by_flow refl (low_in c.low_cuts.result.now) (seen_heights c.args.graph.now c.args.k c.in_ok-labels.labels.labels c.labels.result.now c.labels.ensures c.in_ok-labels.ensures.heights) (seen_lows c.args.graph.now c.args.k c.in_ok-labels.labels.labels c.labels.result.now c.in_ok-labels.labels.cuts c.low_cuts.result.now c.labels.ensures c.low_cuts.ensures c.in_ok-labels.ensures.lows) refl;
      too_much = much;
    })
    (work_is c.in_err-template.field-0.0 r told))

pub returns-clause-chosen : goal.returns-clause-chosen
returns-clause-chosen c = record {
  label = label_at c.labels.result.now;
  supply = Sets c.args.k (low_in c.low_cuts.result.now);
  has = mapped.HasSupply.by_flow refl (low_in c.low_cuts.result.now) (seen_heights c.args.graph.now c.args.k c.in_ok-labels.labels.labels c.labels.result.now c.labels.ensures c.in_ok-labels.ensures.heights) (seen_lows c.args.graph.now c.args.k c.in_ok-labels.labels.labels c.labels.result.now c.in_ok-labels.labels.cuts c.low_cuts.result.now c.labels.ensures c.low_cuts.ensures c.in_ok-labels.ensures.lows) refl;
  chosen = c.in_ok-template.ensures.template;
  light = c.in_ok-template.ensures.light;
}

pub returns-in_err-template-clause-settled : goal.returns-in_err-template-clause-settled
returns-in_err-template-clause-settled c =
    settled_anyway c.from_residual-in_err-template.result
    (supply_settled LeastCost c.args.graph.now c.args.k c.args.roots.now (label_at c.labels.result.now) (Sets c.args.k (low_in c.low_cuts.result.now))
    (one_of_flow c.args.graph.now c.args.k (label_at c.labels.result.now) (low_in c.low_cuts.result.now) (seen_heights c.args.graph.now c.args.k c.in_ok-labels.labels.labels c.labels.result.now c.labels.ensures c.in_ok-labels.ensures.heights) (seen_lows c.args.graph.now c.args.k c.in_ok-labels.labels.labels c.labels.result.now c.in_ok-labels.labels.cuts c.low_cuts.result.now c.labels.ensures c.low_cuts.ensures c.in_ok-labels.ensures.lows) c.labels_by_flow.ensures.once c.labels_by_flow.ensures.one_low)
    (λ rule e limit. differ rule) c.pick_compact-picked.ensures.once c.pick_compact-picked.ensures.excluded c.requires.least c.pick_compact-picked.ensures.mapping c.pick_compact-picked.ensures.least)

pub returns-clause-settled : goal.returns-clause-settled
returns-clause-settled c =
    supply_settled LeastCost c.args.graph.now c.args.k c.args.roots.now (label_at c.labels.result.now) (Sets c.args.k (low_in c.low_cuts.result.now))
    (one_of_flow c.args.graph.now c.args.k (label_at c.labels.result.now) (low_in c.low_cuts.result.now) (seen_heights c.args.graph.now c.args.k c.in_ok-labels.labels.labels c.labels.result.now c.labels.ensures c.in_ok-labels.ensures.heights) (seen_lows c.args.graph.now c.args.k c.in_ok-labels.labels.labels c.labels.result.now c.in_ok-labels.labels.cuts c.low_cuts.result.now c.labels.ensures c.low_cuts.ensures c.in_ok-labels.ensures.lows) c.labels_by_flow.ensures.once c.labels_by_flow.ensures.one_low)
    (λ rule e limit. differ rule) c.pick_compact-picked.ensures.once c.pick_compact-picked.ensures.excluded c.requires.least c.pick_compact-picked.ensures.mapping c.pick_compact-picked.ensures.least

pub returns-clause-least : goal.returns-clause-least
returns-clause-least c =
    let t = c.in_ok-template.template in
    let is = c.in_ok-template.ensures.template in
    least_mapping c.args.graph.now c.args.k c.args.roots.now t c.requires.least (c.pick_compact-picked.ensures.mapping t is) (c.pick_compact-picked.ensures.least t is)
