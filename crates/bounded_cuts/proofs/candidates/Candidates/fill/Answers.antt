use Rattle.bounded_cuts.proofs.Lemmas.{◌≡◌, ◌≤◌, ◌*◌, ℕ, List, length, ap, subst, arith, IsNode, length-map, Candidate, cuts_of, label_at, on_ok_weaker, WithLow, unions, unions_length}
use Rattle.bounded_cuts.proofs.CandidateLemmas.{none_priced, are_unions, heights_are, with_low}
use Rattle.bounded_cuts.proofs.CutLemmas.{unions_cut}
use Rattle.bounded_cuts.proofs.candidates.Candidates.fill.Goals as goal

pub returns-clause-are : goal.returns-clause-are
returns-clause-are c = on_ok_weaker c.push_low.result (λ low.
    let p = c.args.prices.now in
    let k : ℕ = c.args.k in
    let xs = c.fill_front.new.front.items in
    let ys = c.fill_front-2.new.front.items in
    let all = c.push_unions.new.all.items in
    let us : cuts_of all ≡ unions k xs ys = are_unions k c.clear.new.self.items all c.deref.result.now c.deref-2.result.now xs ys c.clear.ensures.items c.deref.ensures.value c.deref-2.ensures.value c.in_ok-push_unions.ensures.cuts in
    let priced = c.in_ok-push_unions.ensures.priced (none_priced p.worths.now c.clear.new.self.items c.clear.ensures.items) in
    let x_front = c.in_ok-fill_front.ensures.hands k c.requires.labels in
    let y_front = c.in_ok-fill_front-2.ensures.hands k c.requires.labels in
    let is : IsNode c.args.graph.now c.pair_at-pair.result c.args.n = record { above = c.requires.node.0; is = c.pair_at-pair.ensures.pair } in
    let heights = heights_are p.labels.now p.worths.now c.args.n all (unions k xs ys) us c.requires.known
    (λ d m i j. ((unions_cut c.args.graph.now k c.args.rows.now c.args.n c.pair_at-pair.result xs ys c.len-count.ensures.normal c.requires.cuts is x_front y_front d i).below m j).0) priced in
    record {
      pair = c.pair_at-pair.result;
      is = is;
      xs = xs;
      x_front = x_front;
      ys = ys;
      y_front = y_front;
      are = subst (λ (r : ℕ). WithLow (label_at p.labels.now) r c.args.low (unions k xs ys) (cuts_of c.push_low.new.all.items)) c.label.ensures.value
          (with_low p.labels.now c.label.result c.args.low all c.push_low.new.all.items (unions k xs ys) us heights low);
    }) c.push_low.ensures.low

pub returns-clause-priced : goal.returns-clause-priced
returns-clause-priced c = on_ok_weaker c.push_low.result (λ priced. priced (c.in_ok-push_unions.ensures.priced (none_priced c.args.prices.now.worths.now c.clear.new.self.items c.clear.ensures.items))) c.push_low.ensures.priced

-- there are at most 17 times 17 unions
few : (k : ℕ) (all : List Candidate) (xs ys : List (List ℕ)) → cuts_of all ≡ unions k xs ys → length xs ≤ 17 → length ys ≤ 17 → length all ≤ 289
few k all xs ys e lx ly =
    let n : length (unions k xs ys) ≤ length xs * 17 = unions_length k xs ys 17 ly in
    let s : length (cuts_of all) ≡ length (unions k xs ys) = ap (λ (l : List (List ℕ)). length l) e in
    omega (arith, length-map all (λ (d : Candidate). d.cut))

pub returns-clause-few : goal.returns-clause-few
returns-clause-few c = on_ok_weaker c.push_low.result (λ one.
    let k : ℕ = c.args.k in
    let xs = c.fill_front.new.front.items in
    let ys = c.fill_front-2.new.front.items in
    let all = c.push_unions.new.all.items in
    let us : cuts_of all ≡ unions k xs ys = are_unions k c.clear.new.self.items all c.deref.result.now c.deref-2.result.now xs ys c.clear.ensures.items c.deref.ensures.value c.deref-2.ensures.value c.in_ok-push_unions.ensures.cuts in
    let most : length all ≤ 289 = few k all xs ys us c.in_ok-fill_front.ensures.few c.in_ok-fill_front-2.ensures.few in
    omega arith) c.push_low.ensures.few
