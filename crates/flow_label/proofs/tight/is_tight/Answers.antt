use Rattle.flow_label.proofs.tight.is_tight.Goals as goal

pub returns-then-are_open-clause-tight : goal.returns-then-are_open-clause-tight
returns-then-are_open-clause-tight c = λ e. record {
  ends = λ u end. c.are_open.ensures c.if-are_open.true u (c.ends.ensures.all u end);
  passed = λ u m i inner f live. c.pass_open.ensures e u m i inner f live;
}
