use Rattle.cover_pick.proofs.Lemmas.{◌∙◌, List, ℕ, sym, label_at, lits_of, next_flows, cheaper_flows, flows_over, leaves_by, later_by, stop_first, stop_second, cheaper_by}
use Rattle.cover_pick.proofs.rounds.three_rounds.Goals as goal

pub uses-requires : goal.uses-requires
uses-requires c = leaves_by c.args.choices.now _ c.in_ok-first.first c.requires c.in_ok-first.ensures

pub uses-requires-2 : goal.uses-requires-2
uses-requires-2 c = leaves_by c.args.choices.now _ c.in_ok-second.second c.requires c.in_ok-second.ensures

pub returns-then-are_same : goal.returns-then-are_same
returns-then-are_same c = stop_first c.args.choices.now c.args.scope c.args.counts.now c.in_ok-used.used.items c.in_ok-first.first c.in_ok-first.ensures c.in_ok-used.ensures (sym c.deref.ensures.value ∙ c.are_same.ensures c.if-are_same.true)

pub returns-then-are_same-2 : goal.returns-then-are_same-2
returns-then-are_same-2 c =
    let choices = c.args.choices.now in
    let start : List ℕ = flows_over choices c.args.scope c.args.counts.now in
    let second = later_by choices c.args.scope start c.in_ok-used.used.items c.deref-2.result.now c.in_ok-first.first c.in_ok-second.second c.in_ok-first.ensures c.in_ok-used.ensures c.deref-2.ensures.value c.in_ok-second.ensures in
    stop_second choices c.args.scope c.args.counts.now c.in_ok-used.used.items c.in_ok-used_next.used_next.items c.in_ok-first.first c.in_ok-second.second c.cheaper-best.result c.in_ok-first.ensures c.in_ok-used.ensures second c.in_ok-used_next.ensures
    (sym c.deref-3.ensures.value ∙ (c.are_same-2.ensures c.if-are_same-2.true ∙ c.deref-4.ensures.value))
    (cheaper_by choices start _ c.in_ok-first.first c.in_ok-second.second c.cheaper-best.result c.in_ok-first.ensures second c.cheaper-best.ensures.value)

pub returns : goal.returns
returns c =
    let choices = c.args.choices.now in
    let start : List ℕ = flows_over choices c.args.scope c.args.counts.now in
    let after : List ℕ = next_flows choices.graph.now choices.rows.now (label_at choices.labels.now) (lits_of choices.roots.now) c.args.scope start in
    let second = later_by choices c.args.scope start c.in_ok-used.used.items c.deref-2.result.now c.in_ok-first.first c.in_ok-second.second c.in_ok-first.ensures c.in_ok-used.ensures c.deref-2.ensures.value c.in_ok-second.ensures in
    let third = later_by choices c.args.scope after c.in_ok-used_next.used_next.items c.deref-5.result.now c.in_ok-second.second c.in_ok-third.third second c.in_ok-used_next.ensures c.deref-5.ensures.value c.in_ok-third.ensures in
    let best = cheaper_by choices start after c.in_ok-first.first c.in_ok-second.second c.cheaper-best.result c.in_ok-first.ensures second c.cheaper-best.ensures.value in
    cheaper_by choices (cheaper_flows choices.graph.now choices.rows.now (label_at choices.labels.now) (lits_of choices.roots.now) start after) _ c.cheaper-best.result c.in_ok-third.third c.cheaper.result best third c.cheaper.ensures.value
