use Rattle.bounded_cuts.proofs.Lemmas.{◌≡◌, ℕ, ◌≤◌, List, first_and, sym, subst, ap, ◌∙◌, arith, label_at, cuts_of, pricing, ArePriced, flows_of, low_flows_of, max, IfOk-weaker, cuts_within, least_flow, IsChosen, count_in, cuts_seen, and_flow, made_pushed, room_for, set_few}
use Rattle.bounded_cuts.proofs.making.push_node.Goals as goal

pub pushed-requires : goal.pushed-requires
pushed-requires c =
    let chosen = subst (IsChosen c.args.wanted.now c.args.n c.args.made.rows c.args.made.worths.items c.make_set.new.room.candidates.all.items c.make_set.new.room.taking.taken.items) (sym c.deref-5.ensures.value) c.in_ok-make_set.ensures in
    room_for c.args.wanted.now c.args.n c.args.made.rows c.args.made.worths.items c.requires.can c.requires.made c.deref-5.result.now c.requires.node.1
    (λ l. absurd (let a : first_and c.args.wanted.now.graph.now ≤ c.args.n = c.requires.node.0 in omega arith))
    (set_few _ _ _ _ _ _ _ _ (record { taken = _; are = chosen.placed; is = chosen.is }))

pub returns : goal.returns
returns c = IfOk-weaker c.pushed.result _ _ (λ more is.
    let w = c.args.wanted.now in
    let n : ℕ = c.args.n in
    let label : ℕ → ℕ = label_at w.labels.now in
    let worths = c.args.made.worths.items in
    let all = c.make_set.new.room.candidates.all.items in
    let taken = c.make_set.new.room.taking.taken.items in
    let set = c.deref-5.result.now in
    let chosen = subst (IsChosen w n c.args.made.rows worths all taken) (sym c.deref-5.ensures.value) c.in_ok-make_set.ensures in
    let p = pricing w.labels.now w.favoured.now worths in
    let flow : c.least_flow.result ≡ least_flow (flows_of worths) set = c.least_flow.ensures.value p (subst (ArePriced p) (sym c.deref.ensures.value) chosen.priced)
    ∙ ap (least_flow (flows_of worths)) (cuts_seen c.deref.result.now all c.deref-2.result.now taken set c.deref.ensures.value c.deref-2.ensures.value chosen.is) in
    let low_flow : c.least_low_flow.result ≡ least_flow (low_flows_of worths) (cuts_within label (label n) set) = c.least_low_flow.ensures.value p (subst (ArePriced p) (sym c.deref-3.ensures.value) chosen.priced)
    ∙ ap (λ (s : List (List ℕ)). least_flow (low_flows_of worths) (cuts_within label c.label-label.result s)) (cuts_seen c.deref-3.result.now all c.deref-4.result.now taken set c.deref-3.ensures.value c.deref-4.ensures.value chosen.is)
    ∙ ap (λ (r : ℕ). least_flow (low_flows_of worths) (cuts_within label r set)) c.label-label.ensures.value in
    made_pushed w n c.args.made.rows worths c.requires.can c.requires.made set _ _ c.worth.result c.worth.ensures
    (and_flow n (first_and w.graph.now) c.least_flow.result _ c.readers-shared.result (max 1 (count_in w.counts.now n)) c.requires.node.0 flow c.readers-shared.ensures)
    (and_flow n (first_and w.graph.now) c.least_low_flow.result _ c.readers-shared.result (max 1 (count_in w.counts.now n)) c.requires.node.0 low_flow c.readers-shared.ensures)
    (λ l. absurd (let a : first_and w.graph.now ≤ n = c.requires.node.0 in omega arith))
    (λ _. (cuts_of all, chosen.are, record { taken = taken; are = chosen.placed; is = chosen.is }))
    more.rows more.worths.items is) c.pushed.ensures
