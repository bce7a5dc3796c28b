use Rattle.flow_label.proofs.Lemmas.{◌≡◌, ◌<◌, ◌-◌, ◌∙◌, arith, ap, sym, subst, length, get_or, get_or_read, In, In-get_or, floor_ground}
use Rattle.flow_label.proofs.Common.{IsGround}
use Rattle.flow_label.proofs.question.low_cut_by_flow.Goals as goal

pub flow_above-requires-clause-ground : goal.flow_above-requires-clause-ground
flow_above-requires-clause-ground c =
    let kept = c.loop-back.invariant.trunks in
    let count : c.len-count.result ≡ length c.args.scratch.now.trunks.floors.items = c.len-count.ensures ∙ c.args.scratch.now.trunks.floors.ok.0 in
    let same : length c.loop-back.scratch.trunks.floors.items ≡ length c.args.scratch.now.trunks.floors.items = ap length kept.floors in
    let inside : c.len-count.result - c.loop-back.back < length c.loop-back.scratch.trunks.floors.items = omega (arith, c.loop-back.invariant.some, c.loop-back-test.true) in
    let read : c.index-floor.result.now ≡ get_or c.loop-back.scratch.trunks.floors.items (c.len-count.result - c.loop-back.back) 0 = get_or_read c.loop-back.scratch.trunks.floors.items (c.len-count.result - c.loop-back.back) c.index-floor.result.now inside c.index-floor.ensures 0 in
    let there : In c.loop-back.scratch.trunks.floors.items c.index-floor.result.now = subst (λ x. In c.loop-back.scratch.trunks.floors.items x) (sym read) (In-get_or c.loop-back.scratch.trunks.floors.items (c.len-count.result - c.loop-back.back) 0 inside) in
    subst (λ u. IsGround c.args.graph.now c.args.n c.index-floor.result.now u) (sym kept.until)
    (floor_ground c.args.graph.now c.args.n c.args.scratch.now.trunks.floors.items c.args.scratch.now.trunks.until.items c.args.scratch.now.trunks.top c.index-floor.result.now c.requires.trunks (subst (λ xs. In xs c.index-floor.result.now) kept.floors there))
