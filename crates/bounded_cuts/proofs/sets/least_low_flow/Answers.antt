use Rattle.bounded_cuts.proofs.Lemmas.{◌≡◌, ℕ, ◌≤◌, ◌<◌, List, length, min, take, get_or, sym, ap, subst, ◌∙◌, arith, In-get_or, Candidate, cuts_at, MOST_FLOW, label_at, height, if◌then◌else◌, nat_lt, least_flow, cuts_within, map_next, least_low_push, low_value}
use Rattle.bounded_cuts.proofs.sets.least_low_flow.Goals as goal

pub bounds-candidates-i : goal.bounds-candidates-i
bounds-candidates-i c = c.requires (get_or c.args.taken.now c.loop-i.i-index 0) (In-get_or c.args.taken.now c.loop-i.i-index 0 c.loop-i-test.true)

pub loop-i-preserved : goal.loop-i-preserved
loop-i-preserved c =
    let cands = c.args.candidates.now in
    let j = get_or c.args.taken.now c.loop-i.i-index 0 in
    let inside : j < length cands = c.requires j (In-get_or c.args.taken.now c.loop-i.i-index 0 c.loop-i-test.true) in
    let x = get_or cands j c.index-candidates-i.result in
    let low : ℕ = if nat_lt c.args.label x.height then MOST_FLOW else x.low_flow in
    let least : c.min-least.result ≡ min c.loop-i.least low = c.min-least.ensures ∙ ap (min c.loop-i.least) (subst (λ (z : Candidate). c.low_flow_of.result ≡ (if nat_lt c.args.label z.height then MOST_FLOW else z.low_flow)) c.index-candidates-i.is (low_value c.args.label c.index-candidates-i.result.height c.low_flow_of.result c.index-candidates-i.result.low_flow c.low_flow_of.ensures.high c.low_flow_of.ensures.low)) in
    record {
      value = λ p priced. (
          let is = priced x (In-get_or cands j c.index-candidates-i.result inside) in
          let set = cuts_at cands (take c.loop-i.i-index c.args.taken.now) in
          least ∙ ap (λ (n : ℕ). min n low) (c.loop-i.invariant.value p priced)
          ∙ ap (λ (h : ℕ). min (least_flow p.lows (cuts_within (label_at p.labels) c.args.label set)) (if nat_lt c.args.label h then MOST_FLOW else x.low_flow)) is.height_is
          ∙ ap (λ (n : ℕ). min (least_flow p.lows (cuts_within (label_at p.labels) c.args.label set)) (if nat_lt c.args.label (height (label_at p.labels) x.cut) then MOST_FLOW else n)) is.low_is
          ∙ sym (least_low_push (label_at p.labels) c.args.label p.lows set x.cut)
          ∙ ap (λ (l : List (List ℕ)). least_flow p.lows (cuts_within (label_at p.labels) c.args.label l)) (sym (map_next cands c.args.taken.now c.loop-i.i-index c.index-candidates-i.result c.loop-i-test.true inside)));
      capped = (let m : c.loop-i.least ≤ MOST_FLOW = c.loop-i.invariant.capped in omega arith);
    }
