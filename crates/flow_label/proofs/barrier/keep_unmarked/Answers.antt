use Rattle.flow_label.proofs.Lemmas.{◌∙◌, ap, sym, take_all, unmarked, kept_more, passed_more}
use Rattle.flow_label.proofs.barrier.keep_unmarked.Goals as goal
use Rattle.flow_label.proofs.barrier.keep_unmarked.Goals.{then-get-eq0+in_ok-push, else-get-eq0}

pub loop-m-preserved : goal.loop-m-preserved
loop-m-preserved c = elim c.if-get-eq0.branch [
  | then-get-eq0+in_ok-push w ↦ rw w.kept-is (kept_more c.args.marks.now c.args.nodes.now c.loop-m.kept.items w.push.new.self.items c.loop-m.m-index c.loop-m-test.true (sym c.get.ensures ∙ w.if-get-eq0.true) c.loop-m.invariant w.in_ok-push.ensures.items)
  | else-get-eq0 w ↦ rw w.kept-is (passed_more c.args.marks.now c.args.nodes.now c.loop-m.kept.items c.loop-m.m-index c.loop-m-test.true (λ e. w.if-get-eq0.false (c.get.ensures ∙ e)) c.loop-m.invariant)
]

pub returns : goal.returns
returns c = c.loop-m.invariant ∙ ap (λ xs. unmarked c.args.marks.now xs) (take_all c.loop-m.m-index c.args.nodes.now c.loop-m-test.false)
