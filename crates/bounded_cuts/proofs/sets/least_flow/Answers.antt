use Rattle.bounded_cuts.proofs.Lemmas.{◌≡◌, ℕ, ◌≤◌, ◌<◌, length, min, take, get_or, sym, ap, ◌∙◌, arith, In-get_or, cuts_at, cut_flow, MOST_FLOW, least_flow, map_next, least_push}
use Rattle.bounded_cuts.proofs.sets.least_flow.Goals as goal

pub bounds-candidates-i : goal.bounds-candidates-i
bounds-candidates-i c = c.requires (get_or c.args.taken.now c.loop-i.i-index 0) (In-get_or c.args.taken.now c.loop-i.i-index 0 c.loop-i-test.true)

pub bounds-candidates-i-in-loop-i : goal.bounds-candidates-i-in-loop-i
bounds-candidates-i-in-loop-i c = c.requires (get_or c.args.taken.now c.loop-i.i-index 0) (In-get_or c.args.taken.now c.loop-i.i-index 0 c.loop-i-test.true)

pub loop-i-preserved : goal.loop-i-preserved
loop-i-preserved c =
    let cands = c.args.candidates.now in
    let j = get_or c.args.taken.now c.loop-i.i-index 0 in
    let inside : j < length cands = c.requires j (In-get_or c.args.taken.now c.loop-i.i-index 0 c.loop-i-test.true) in
    let x = get_or cands j c.index-candidates-i.result in
    let least : c.min-least.result ≡ min c.loop-i.least x.flow = c.min-least.ensures in
    record {
      value = λ p priced. (
          let flow : x.flow ≡ cut_flow p.flows x.cut = (priced x (In-get_or cands j c.index-candidates-i.result inside)).flow_is in
          least ∙ ap (λ (n : ℕ). min n x.flow) (c.loop-i.invariant.value p priced) ∙ ap (λ (n : ℕ). min (least_flow p.flows (cuts_at cands (take c.loop-i.i-index c.args.taken.now))) n) flow
          ∙ sym (least_push p.flows (cuts_at cands (take c.loop-i.i-index c.args.taken.now)) x.cut)
          ∙ ap (least_flow p.flows) (sym (map_next cands c.args.taken.now c.loop-i.i-index c.index-candidates-i.result c.loop-i-test.true inside)));
      capped = (let m : c.loop-i.least ≤ MOST_FLOW = c.loop-i.invariant.capped in omega arith);
    }
