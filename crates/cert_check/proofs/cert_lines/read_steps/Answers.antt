use Rattle.cert_check.proofs.Lemmas.{◌≡◌, ℕ, ◌+◌, false, List, [], ◌∷◌, ◌++◌, length, map, ap, ◌∙◌, Some, None, arith, length-map, member_at, OrMemory, OrMemory-map, LineValue, WordsLine, words_line, said_of, steps_said, fits_at, saying_value, IsMisfit, refusal_of, Malformed, passed_err, nothing_said, wrong_place, one_more, all_read, line_at}
use Rattle.cert_check.proofs.cert_lines.read_steps.Goals as goal

pub read_saying-requires : goal.read_saying-requires
read_saying-requires c = c.requires.each c.line-item.result (member_at c.args.lines.now c.loop-line.line-index c.line-item.result c.loop-line-test.true c.line-item.is)

pub returns-in_err-saying-clause-fault : goal.returns-in_err-saying-clause-fault
returns-in_err-saying-clause-fault c =
    let lines : List WordsLine = map (words_line c.args.text.now) c.args.lines.now in
    let line : WordsLine = words_line c.args.text.now c.line-item.result in
    passed_err c.from_residual.result c.in_err-saying.field-0.0 (OrMemory refusal_of (IsMisfit 1 lines)) c.from_residual.ensures.1
    (OrMemory-map refusal_of (λ e. (said_of line.words ≡ None) × (e ≡ Malformed line.number)) (IsMisfit 1 lines) c.in_err-saying.field-0.0
    (λ e said. nothing_said lines c.loop-line.line-index c.loop-line.steps.items c.loop-line.invariant line
    (line_at c.args.text.now c.args.lines.now c.loop-line.line-index c.line-item.result c.loop-line-test.true c.line-item.is) e said.0 said.1) c.in_err-saying.ensures)

pub returns-in_err-add_saying-clause-fault : goal.returns-in_err-add_saying-clause-fault
returns-in_err-add_saying-clause-fault c =
    let lines : List WordsLine = map (words_line c.args.text.now) c.args.lines.now in
    let line : WordsLine = words_line c.args.text.now c.line-item.result in
    let same : c.line.inside.number ≡ line.number = ap (λ (l : LineValue). l.number) c.line.view_is in
    passed_err c.from_residual-in_err-add_saying.result c.in_err-add_saying.field-0.0 (OrMemory refusal_of (IsMisfit 1 lines)) c.from_residual-in_err-add_saying.ensures.1
    (OrMemory-map refusal_of (λ e. (fits_at (1 + length (steps_said c.loop-line.steps.items)) (Some (saying_value c.in_ok-saying.saying)) ≡ false) × (e ≡ Malformed c.line.inside.number)) (IsMisfit 1 lines) c.in_err-add_saying.field-0.0
    (λ e said. wrong_place lines c.loop-line.line-index c.loop-line.steps.items c.loop-line.invariant line
    (line_at c.args.text.now c.args.lines.now c.loop-line.line-index c.line-item.result c.loop-line-test.true c.line-item.is) (saying_value c.in_ok-saying.saying) c.in_ok-saying.ensures e said.0 (said.1 ∙ ap Malformed same)) c.in_err-add_saying.ensures)

pub loop-line-preserved : goal.loop-line-preserved
loop-line-preserved c =
    let lines : List WordsLine = map (words_line c.args.text.now) c.args.lines.now in
    let line : WordsLine = words_line c.args.text.now c.line-item.result in
    let same : c.line.inside.number ≡ line.number = ap (λ (l : LineValue). l.number) c.line.view_is in
    one_more lines c.loop-line.line-index c.loop-line.steps.items c.loop-line.invariant line
    (line_at c.args.text.now c.args.lines.now c.loop-line.line-index c.line-item.result c.loop-line-test.true c.line-item.is) (saying_value c.in_ok-saying.saying) c.in_ok-saying.ensures c.add_saying.new.steps.items
    (c.in_ok-add_saying.ensures.0 ∙ ap (λ (n : ℕ). steps_said c.loop-line.steps.items ++ record { number = n; saying = saying_value c.in_ok-saying.saying } ∷ []) same) c.in_ok-add_saying.ensures.1

pub returns-clause-steps : goal.returns-clause-steps
returns-clause-steps c =
    let lines : List WordsLine = map (words_line c.args.text.now) c.args.lines.now in
    all_read lines c.loop-line.line-index c.loop-line.steps.items c.loop-line.invariant (omega (arith, length-map c.args.lines.now (words_line c.args.text.now)))
