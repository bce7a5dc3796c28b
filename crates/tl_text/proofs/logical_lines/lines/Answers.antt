use Rattle.tl_text.proofs.Common.{◌+◌, ◌≡◌, Ok, [], length, drop, arith, sym, ap, ◌∙◌, slice_range, physical_lines, err_from_is_err_and}
use Rattle.tl_text.proofs.LineLemmas.{reads_feed, reads_next, reads_other, reads_end, read_on, read_refused, all_lines-closed}
use Rattle.tl_text.proofs.PlaceLemmas.{lines_inside, lines_clean}
use Rattle.tl_text.proofs.TokenLemmas.{tokens_are}
use Rattle.tl_text.proofs.logical_lines.lines.Goals as goal
use Rattle.tl_text.proofs.logical_lines.lines.Goals.{then-b-eq10+in_ok-read, else-b-eq10}

pub returns-in_err-read-clause-answer : goal.returns-in_err-read-clause-answer
returns-in_err-read-clause-answer c =
    let p = err_from_is_err_and c.from_residual.result c.from_residual.ensures.1 in rw (p.1, p.2)
    (read_refused (c.loop-i.number + 1) (c.loop-i.i + 1) (physical_lines (drop (c.loop-i.i + 1) c.args.text.now)) _ _ c.in_err-read.field-0.0 (rw c.cut_end-line.ensures at c.in_err-read.ensures)
    (sym c.loop-i.invariant.same ∙ reads_feed c.args.text.now c.loop-i.i c.loop-i.number c.loop-i.start c.loop-i.reader c.loop-i.invariant.within c.loop-i-test.true c.if-b-eq10.true))

pub loop-i-preserved : goal.loop-i-preserved
loop-i-preserved c = elim c.if-b-eq10.branch [
  | then-b-eq10+in_ok-read w ↦ rw (w.start-is, w.number-is, w.reader-is) (record {
    within = omega arith;
    count = omega arith;
    same = reads_next c.args.text.now (c.loop-i.i + 1) (c.loop-i.number + 1) w.read.new.self
        ∙ ap (read_on (c.loop-i.number + 1) (c.loop-i.i + 1) (physical_lines (drop (c.loop-i.i + 1) c.args.text.now))) (sym (rw w.cut_end-line.ensures at w.in_ok-read.ensures))
        ∙ sym (reads_feed c.args.text.now c.loop-i.i c.loop-i.number c.loop-i.start c.loop-i.reader c.loop-i.invariant.within c.loop-i-test.true w.if-b-eq10.true) ∙ c.loop-i.invariant.same;
  })
  | else-b-eq10 w ↦ rw (w.start-is, w.number-is, w.reader-is) (record {
    within = omega arith;
    count = omega arith;
    same = sym (reads_other c.args.text.now c.loop-i.i c.loop-i.number c.loop-i.start c.loop-i.reader c.loop-i.invariant.within c.loop-i-test.true w.if-b-eq10.false) ∙ c.loop-i.invariant.same;
  })
]

pub returns-in_err-read-2-clause-answer : goal.returns-in_err-read-2-clause-answer
returns-in_err-read-2-clause-answer c =
    let end : c.loop-i.i ≡ length c.args.text.now = omega arith in
    let p = err_from_is_err_and c.from_residual-in_err-read-2.result c.from_residual-in_err-read-2.ensures.1 in rw (p.1, p.2)
    (read_refused (c.loop-i.number + 1) (c.loop-i.start + length (slice_range c.args.text.now c.loop-i.start (length c.args.text.now)) + 1) [] _ _ c.in_err-read-2.field-0.0 c.in_err-read-2.ensures (sym c.loop-i.invariant.same ∙ reads_end c.args.text.now c.loop-i.i c.loop-i.number c.loop-i.start c.loop-i.reader end))

pub returns-in_err-read-clause-always_clean : goal.returns-in_err-read-clause-always_clean
returns-in_err-read-clause-always_clean c = lines_clean c.args.text.now

pub returns-in_err-read-clause-runs : goal.returns-in_err-read-clause-runs
returns-in_err-read-clause-runs c = tokens_are

pub returns-in_err-read-2-clause-always_clean : goal.returns-in_err-read-2-clause-always_clean
returns-in_err-read-2-clause-always_clean c = lines_clean c.args.text.now

pub returns-in_err-read-2-clause-runs : goal.returns-in_err-read-2-clause-runs
returns-in_err-read-2-clause-runs c = tokens_are

pub returns-in_err-finish-clause-always_clean : goal.returns-in_err-finish-clause-always_clean
returns-in_err-finish-clause-always_clean c = lines_clean c.args.text.now

pub returns-in_err-finish-clause-runs : goal.returns-in_err-finish-clause-runs
returns-in_err-finish-clause-runs c = tokens_are

pub returns-clause-answer : goal.returns-clause-answer
returns-clause-answer c =
    let end : c.loop-i.i ≡ length c.args.text.now = omega arith in
    sym c.loop-i.invariant.same ∙ reads_end c.args.text.now c.loop-i.i c.loop-i.number c.loop-i.start c.loop-i.reader end
    ∙ ap (read_on (c.loop-i.number + 1) (c.loop-i.start + length (slice_range c.args.text.now c.loop-i.start (length c.args.text.now)) + 1) []) c.in_ok-read-2.ensures
    ∙ ap (λ ls. Ok ls) (all_lines-closed c.read-2.new.self.done c.read-2.new.self.unfinished ∙ sym c.in_ok-finish.ensures)

pub returns-clause-places : goal.returns-clause-places
returns-clause-places c = lines_inside c.args.text.now _ (returns-clause-answer c)

pub returns-clause-clean : goal.returns-clause-clean
returns-clause-clean c = lines_clean c.args.text.now _ (returns-clause-answer c)

pub returns-clause-always_clean : goal.returns-clause-always_clean
returns-clause-always_clean c = lines_clean c.args.text.now

pub returns-clause-runs : goal.returns-clause-runs
returns-clause-runs c = tokens_are
