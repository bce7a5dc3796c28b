use Rattle.flow_label.proofs.Lemmas.{◌≡◌, ◌∙◌, subst, inl, inr, arith, cases_lt, get_or, In, In-get_or, net_of, blocked}
use Rattle.flow_label.proofs.Common.{IsOpen}
use Rattle.flow_label.proofs.search.find.Goals as goal

pub loop-m-init : goal.loop-m-init
loop-m-init c =
    record {
      searching = c.begin.ensures.searching;
      none = c.begin.ensures.none;
      begun = λ j l reached. absurd (omega arith);
      marks = record { room = c.begin.ensures.searching.passed_are.size; size = c.begin.ensures.searching.size };
    }

pub search_from-requires-clause-end : goal.search_from-requires-clause-end
search_from-requires-clause-end c =
    c.ends-ends.ensures.only _ (In-get_or c.ends-ends.result.now c.loop-m.m-index 0 c.loop-m-test.true)

pub returns-then-branch-clause-ended : goal.returns-then-branch-clause-ended
returns-then-branch-clause-ended c =
    c.in_ok-search_from.ensures.ended c.if-branch.true

pub returns-then-branch-clause-marks : goal.returns-then-branch-clause-marks
returns-then-branch-clause-marks c = record { room = c.in_ok-search_from.ensures.marks.room ∙ c.loop-m.invariant.marks.room; size = c.in_ok-search_from.ensures.marks.size ∙ c.loop-m.invariant.marks.size }

pub loop-m-preserved : goal.loop-m-preserved
loop-m-preserved c =
    record {
      searching = c.in_ok-search_from.ensures.on c.if-branch.false;
      none = c.in_ok-search_from.ensures.none c.if-branch.false;
      begun = λ j l reached. elim (cases_lt j c.loop-m.m-index) [
        | inl b ↦ c.in_ok-search_from.ensures.kept _ (c.loop-m.invariant.begun j b reached)
        | inr b ↦ (let e : c.loop-m.m-index ≡ j = omega arith in subst (λ i. IsOpen (net_of c.args.site.now) (get_or c.ends-ends.result.now i 0) → In c.search_from.new.search.queue.items (get_or c.ends-ends.result.now i 0)) e (c.in_ok-search_from.ensures.there c.if-branch.false) reached)
      ];
      marks = record { room = c.in_ok-search_from.ensures.marks.room ∙ c.loop-m.invariant.marks.room; size = c.in_ok-search_from.ensures.marks.size ∙ c.loop-m.invariant.marks.size };
    }

pub returns-clause-ended : goal.returns-clause-ended
returns-clause-ended c =
    blocked c.args.site.now c.args.links.now.owners c.loop-m.search.seen c.loop-m.search.queue.items c.loop-m.search.backs.items c.loop-m.search.passed c.ends-ends.result.now c.loop-m.m-index c.loop-m.invariant.searching c.ends-ends.ensures c.loop-m.invariant.begun c.loop-m-test.false
