use Rattle.bounded_cuts.proofs.Lemmas.{◌≡◌, ℕ, ◌<◌, List, length, In, Candidate, sym, subst, ap, ◌∙◌, arith, label_at, node_count, AreBounded, AreCapped, ArePricedBy, ArePlaced, HaveSmallCosts, Worth, cuts_at, cuts_of, label_in, pricing, CanTake, AreCandidates, on_ok_weaker, count_in, row_few, rows_cut, can_take, chosen_cut}
use Rattle.bounded_cuts.specs.declared.scope.Scope.TheVariants.{AnyHeight, LeastHeight}
use Rattle.bounded_cuts.proofs.GrowthLemmas.{flows_capped}
use Rattle.bounded_cuts.proofs.WorthLemmas.{all_priced_as, bounded}
use Rattle.bounded_cuts.proofs.making.make_set.Goals as goal

pub fill-requires-clause-bounded : goal.fill-requires-clause-bounded
fill-requires-clause-bounded c =
    let w = c.args.wanted.now in
    let made = c.requires.made in
    subst AreBounded (sym c.deref.ensures.value) (bounded w.labels.now w.favoured.now c.args.n c.args.made.now.worths.items made.worths_are
    (subst AreCapped (sym made.flows_are) (flows_capped w.graph.now AnyHeight (label_at w.labels.now) c.args.made.now.rows (count_in w.counts.now) c.args.n))
    (subst AreCapped (sym made.low_flows_are) (flows_capped w.graph.now LeastHeight (label_at w.labels.now) c.args.made.now.rows (count_in w.counts.now) c.args.n)))

pub fill-requires-clause-known : goal.fill-requires-clause-known
fill-requires-clause-known c = subst (λ (ws : List Worth). (m : ℕ) → m < c.args.n → label_in ws m ≡ label_at c.args.wanted.now.labels.now m) (sym c.deref.ensures.value) c.requires.made.worths_are.labels_are

pub fill-requires-clause-cuts : goal.fill-requires-clause-cuts
fill-requires-clause-cuts c = rows_cut c.args.wanted.now c.args.n c.args.made.now.rows c.args.made.now.worths.items c.requires.can c.requires.made

pub fill-requires-clause-rows : goal.fill-requires-clause-rows
fill-requires-clause-rows c m =
    let l : c.args.n < node_count c.args.wanted.now.graph.now = c.requires.node.1 in
    omega (arith, row_few c.args.wanted.now c.args.n c.args.made.now.rows c.args.made.now.worths.items c.requires.can c.requires.made (omega arith) m, c.requires.can.few)

pub take_places-requires-clause-small : goal.take_places-requires-clause-small
take_places-requires-clause-small c = subst HaveSmallCosts (sym c.deref-2.ensures.value) (λ d m. (c.in_ok-fill.ensures.priced d m).small)

pub returns : goal.returns
returns c = on_ok_weaker c.copy_cuts.result (λ set_is.
    let w = c.args.wanted.now in
    let n : ℕ = c.args.n in
    let rows = c.args.made.now.rows in
    let worths = c.args.made.now.worths.items in
    let all = c.fill.new.self.all.items in
    let are = subst (λ (low : List ℕ). AreCandidates w.graph.now w.k (label_at w.labels.now) low rows n (cuts_of all)) c.low_of-low.ensures c.in_ok-fill.ensures.are in
    let priced = all_priced_as w.labels.now w.favoured.now n worths c.requires.made.worths_are all
    (λ d m i j. ((chosen_cut w n rows worths c.requires.can c.requires.made c.requires.node all are d i).below m j).0)
    (subst (λ (ws : List Worth). ArePricedBy ws all) c.deref.ensures.value c.in_ok-fill.ensures.priced) in
    let p = pricing w.labels.now w.favoured.now worths in
    let label : ℕ = c.label-label.result in
    let can = subst (CanTake p label) (sym c.deref-2.ensures.value) (subst (λ (r : ℕ). CanTake p r all) (sym c.label-label.ensures.value) (can_take w n rows worths c.requires.can c.requires.made c.requires.node all are priced)) in
    let taken = c.take_places.new.self.taken.items in
    record {
      are = are;
      priced = priced;
      inside = subst (λ (l : List Candidate). (j : ℕ) → In taken j → j < length l) c.deref-2.ensures.value c.in_ok-take_places.ensures.inside;
      placed = subst (λ (r : ℕ). ArePlaced p w.k r (cuts_of all) taken) c.label-label.ensures.value (subst (λ (l : List Candidate). ArePlaced p w.k label (cuts_of l) taken) c.deref-2.ensures.value (c.in_ok-take_places.ensures.placed p can));
      is = set_is ∙ ap (λ (l : List Candidate). cuts_at l c.deref-4.result.now) c.deref-3.ensures.value ∙ ap (cuts_at all) c.deref-4.ensures.value;
    }) c.copy_cuts.ensures
