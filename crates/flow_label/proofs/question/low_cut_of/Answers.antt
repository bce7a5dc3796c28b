use Rattle.flow_label.proofs.Lemmas.{◌≤◌, ◌-◌, [], sym, subst, length, label_at, net_at, IsLowCut, IsFlowCut, IsHigh, IsNearest, IfSome, IfOk-weaker, ends_cut, net_is, full_ground, nearest_answer, nearest_flow}
use Rattle.flow_label.proofs.Common.{AreEnds, MatchOption}
use Rattle.flow_label.specs.Barriers.{IsAnswer}
use Rattle.flow_label.proofs.EndLemmas.{walk_found}
use Rattle.flow_label.proofs.question.low_cut_of.Goals as goal

pub returns-in-Some-clause-answer : goal.returns-in-Some-clause-answer
returns-in-Some-clause-answer c =
    subst (λ d. IsLowCut c.args.graph.now c.args.k c.args.n c.args.height (label_at c.args.labels.now) d) (sym c.in-Some.ensures.0)
    (ends_cut (net_at c.args.graph.now c.args.labels.now c.args.n c.args.height c.walk_down.new.walk.readers) (net_is c.args.graph.now c.args.labels.now c.args.n c.args.height c.walk_down.new.walk.readers (length c.args.graph.now.kinds) [] c.requires.node c.requires.high c.len-count.ensures.normal c.requires.known c.in_ok-walk_down.ensures.readers (full_ground c.args.graph.now c.args.n [] c.requires.node)) c.in_ok-walk_down.ensures.readers c.args.k c.deref.result.now
    (subst (λ xs. AreEnds (net_at c.args.graph.now c.args.labels.now c.args.n c.args.height c.walk_down.new.walk.readers) xs) (sym c.deref.ensures.value) c.in_ok-walk_down.ensures.ends) (subst (λ d. length d ≤ c.args.k) c.in-Some.ensures.0 c.in-Some.ensures.1))

pub returns-in-Some-clause-low : goal.returns-in-Some-clause-low
returns-in-Some-clause-low c =
    subst (λ d. IsFlowCut c.args.graph.now c.args.k (label_at c.args.labels.now) c.args.n (c.args.height - 1) d) (sym c.in-Some.ensures.0)
    (walk_found (net_at c.args.graph.now c.args.labels.now c.args.n c.args.height c.walk_down.new.walk.readers) (net_is c.args.graph.now c.args.labels.now c.args.n c.args.height c.walk_down.new.walk.readers (length c.args.graph.now.kinds) [] c.requires.node c.requires.high c.len-count.ensures.normal c.requires.known c.in_ok-walk_down.ensures.readers (full_ground c.args.graph.now c.args.n [] c.requires.node)) c.in_ok-walk_down.ensures.readers c.args.k c.deref.result.now
    (subst (λ xs. AreEnds (net_at c.args.graph.now c.args.labels.now c.args.n c.args.height c.walk_down.new.walk.readers) xs) (sym c.deref.ensures.value) c.in_ok-walk_down.ensures.ends) (subst (λ d. length d ≤ c.args.k) c.in-Some.ensures.0 c.in-Some.ensures.1))

pub returns-clause-answer : goal.returns-clause-answer
returns-clause-answer c =
    IfOk-weaker c.low_cut_by_flow.result
    (λ answer. MatchOption answer (IsHigh c.args.graph.now c.args.k c.args.n c.args.height (label_at c.args.labels.now)) (λ cut. IsNearest c.args.graph.now c.args.k c.args.n c.args.height (label_at c.args.labels.now) cut))
    (λ answer. IsAnswer c.args.graph.now c.args.k c.args.n c.args.height (label_at c.args.labels.now) answer)
    (λ answer m. nearest_answer c.args.graph.now c.args.k c.args.n c.args.height (label_at c.args.labels.now) answer m)
    c.low_cut_by_flow.ensures.answer

pub returns-clause-low : goal.returns-clause-low
returns-clause-low c =
    IfOk-weaker c.low_cut_by_flow.result
    (λ answer. MatchOption answer (IsHigh c.args.graph.now c.args.k c.args.n c.args.height (label_at c.args.labels.now)) (λ cut. IsNearest c.args.graph.now c.args.k c.args.n c.args.height (label_at c.args.labels.now) cut))
    (λ answer. IfSome answer (λ cut. IsFlowCut c.args.graph.now c.args.k (label_at c.args.labels.now) c.args.n (c.args.height - 1) cut))
    (λ answer m. nearest_flow (net_at c.args.graph.now c.args.labels.now c.args.n c.args.height c.walk_down.new.walk.readers) (net_is c.args.graph.now c.args.labels.now c.args.n c.args.height c.walk_down.new.walk.readers (length c.args.graph.now.kinds) [] c.requires.node c.requires.high c.len-count.ensures.normal c.requires.known c.in_ok-walk_down.ensures.readers (full_ground c.args.graph.now c.args.n [] c.requires.node)) c.in_ok-walk_down.ensures.readers c.args.k c.deref.result.now (subst (λ xs. AreEnds (net_at c.args.graph.now c.args.labels.now c.args.n c.args.height c.walk_down.new.walk.readers) xs) (sym c.deref.ensures.value) c.in_ok-walk_down.ensures.ends) c.in_default.ensures answer m)
    c.low_cut_by_flow.ensures.answer
