use Rattle.flow_label.proofs.Lemmas.{◌≡◌, ℕ, ◌+◌, ◌∙◌, ◌≤◌, List, [], ◌∷◌, length, refl, sym, ap, arith, label_at, IsHigh, by_fan_ins, by_lower, FlowValue, low_labelled, free_labelled, high_labelled}
use Rattle.flow_label.proofs.node.label_node.Goals as goal
use Rattle.flow_label.proofs.node.label_node.Goals.{then-p-gt0+in_ok-cut+in_default, else-p-gt0, then-len-eq0, else-len-eq0}

empty : (xs : List ℕ) → length xs ≡ 0 → xs ≡ []
empty [] e = refl
empty (x ∷ xs) e = absurd (omega arith)

pub returns-in-Some-clause-labelled : goal.returns-in-Some-clause-labelled
returns-in-Some-clause-labelled c =
    let v : FlowValue = record { labels = c.args.labels.now; cuts = c.args.cuts.now } in
    low_labelled c.args.graph.now c.args.k c.args.n v c.len-count.ensures.normal c.requires.node c.requires.labelled c.greatest_label-p.result c.greatest_label-p.ensures.greatest c.in-Some.cut c.if-p-gt0.true
    (rw c.in-Some.is at c.in_ok-cut.ensures.answer)

pub returns-clause-labelled : goal.returns-clause-labelled
returns-clause-labelled c =
    let v : FlowValue = record { labels = c.args.labels.now; cuts = c.args.cuts.now } in
    let high : 1 ≤ c.greatest_label-p.result → IsHigh c.args.graph.now c.args.k c.args.n (c.greatest_label-p.result + 1) (label_at c.args.labels.now) = (λ some. elim c.if-p-gt0.branch [
      | then-p-gt0+in_ok-cut+in_default w ↦ (rw w.in_default.is at w.in_ok-cut.ensures.answer)
      | else-p-gt0 w ↦ (let l : c.greatest_label-p.result ≤ 0 = w.if-p-gt0.false in absurd (omega arith))
    ]) in
    elim c.if-len-eq0.branch [
      | then-len-eq0 w ↦ rw w.label-is
          (free_labelled c.args.graph.now c.args.k c.args.n v c.len-count.ensures.normal c.requires.node c.requires.labelled c.greatest_label-p.result c.greatest_label-p.ensures.greatest c.requires.least c.fan_in_cut-cut.result c.fan_in_cut-cut.ensures
          (empty c.fan_in_cut-cut.result (sym c.len.ensures.count ∙ w.if-len-eq0.true)))
      | else-len-eq0 w ↦ rw w.label-is
          (high_labelled c.args.graph.now c.args.k c.args.n v c.len-count.ensures.normal c.requires.node c.requires.labelled c.greatest_label-p.result c.greatest_label-p.ensures.greatest c.requires.least c.fan_in_cut-cut.result c.fan_in_cut-cut.ensures high
          (λ e. w.if-len-eq0.false (c.len.ensures.count ∙ ap length e)))
    ]

pub returns-in-Some-clause-low : goal.returns-in-Some-clause-low
returns-in-Some-clause-low c = record { greatest = c.greatest_label-p.result; is = c.greatest_label-p.ensures.greatest; low = by_lower refl c.if-p-gt0.true (rw c.in-Some.is at c.in_ok-cut.ensures.low) }

pub returns-clause-low : goal.returns-clause-low
returns-clause-low c =
    elim c.if-len-eq0.branch [
      | then-len-eq0 w ↦ rw w.label-is (record { greatest = c.greatest_label-p.result; is = c.greatest_label-p.ensures.greatest; low = by_fan_ins (λ e. sym e) c.fan_in_cut-cut.ensures })
      | else-len-eq0 w ↦ rw w.label-is (record { greatest = c.greatest_label-p.result; is = c.greatest_label-p.ensures.greatest; low = by_fan_ins (λ e. absurd (omega arith)) c.fan_in_cut-cut.ensures })
    ]
