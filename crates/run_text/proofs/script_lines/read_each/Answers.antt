use Rattle.run_text.proofs.Common.{◌≡◌, ◌+◌, List, length, map, Some, None, subst, ◌∙◌, arith, length-map, member_at, OrMemory-map, OrMemory, WordsLine, words_line, EventValue, event_value, event_values, refusal_of, line_refusal, IsFirstRefusal, passed_err}
use Rattle.param_list.proofs.LineLemmas.{line_at}
use Rattle.run_text.proofs.ScriptReadLemmas.{AreRead, first_refusal, one_more, all_read, one_event}
use Rattle.run_text.proofs.script_lines.read_each.Goals as goal

pub read_line-requires-clause-within : goal.read_line-requires-clause-within
read_line-requires-clause-within c = c.requires.within.each c.line-item.result (member_at c.args.lines.now c.loop-line.line-index c.line-item.result c.loop-line-test.true c.line-item.is)

pub returns-in_err-event-clause-fault : goal.returns-in_err-event-clause-fault
returns-in_err-event-clause-fault c =
    let lines : List WordsLine = map (words_line c.args.text.now) c.args.lines.now in
    let line : WordsLine = words_line c.args.text.now c.line-item.result in
    passed_err c.from_residual.result c.in_err-event.field-0.0 (OrMemory refusal_of (IsFirstRefusal c.args.names.now lines)) c.from_residual.ensures.1
    (OrMemory-map refusal_of (λ e. line_refusal c.args.names.now c.len.result line ≡ Some e) (IsFirstRefusal c.args.names.now lines) c.in_err-event.field-0.0
    (λ e is. first_refusal c.args.names.now lines c.loop-line.line-index (event_values c.loop-line.events.items) c.loop-line.invariant.read line
    (line_at c.args.text.now c.args.lines.now c.loop-line.line-index c.line-item.result c.loop-line-test.true c.line-item.is) e
    (subst (λ n. line_refusal c.args.names.now n line ≡ Some e) (c.len.ensures ∙ c.loop-line.invariant.count) is)) c.in_err-event.ensures)

pub loop-line-preserved : goal.loop-line-preserved
loop-line-preserved c =
    let lines : List WordsLine = map (words_line c.args.text.now) c.args.lines.now in
    let line : WordsLine = words_line c.args.text.now c.line-item.result in
    record {
      count = omega (arith, c.in_ok-push.ensures.len, c.loop-line.invariant.count);
      read = subst (λ (es : List EventValue). AreRead c.args.names.now lines (c.loop-line.line-index + 1) es) (one_event c.loop-line.events.items c.push.new.self.items c.in_ok-event.event c.in_ok-push.ensures.items)
          (one_more c.args.names.now lines c.loop-line.line-index (event_values c.loop-line.events.items) c.loop-line.invariant.read line
          (line_at c.args.text.now c.args.lines.now c.loop-line.line-index c.line-item.result c.loop-line-test.true c.line-item.is) (event_value c.in_ok-event.event)
          (subst (λ n. line_refusal c.args.names.now n line ≡ None) (c.len.ensures ∙ c.loop-line.invariant.count) c.in_ok-event.ensures.0) c.in_ok-event.ensures.1);
    }

pub returns-clause-events : goal.returns-clause-events
returns-clause-events c =
    let lines : List WordsLine = map (words_line c.args.text.now) c.args.lines.now in
    let same : length lines ≡ length c.args.lines.now = length-map c.args.lines.now (words_line c.args.text.now) in
    all_read c.args.names.now lines c.loop-line.line-index (event_values c.loop-line.events.items) c.loop-line.invariant.read (omega arith)
