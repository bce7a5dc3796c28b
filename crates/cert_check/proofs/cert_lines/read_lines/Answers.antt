use Rattle.cert_check.proofs.Lemmas.{◌≡◌, ◌-◌, false, List, length, map, take, drop, ◌∙◌, subst, sym, take_rest, take-append-drop, In, member_at, In-right, OrMemory, OrMemory-map, LineValue, WordsLine, words_line, said_of, steps_said, fits_at, AreSaid, IsMalformed, IsMisfit, refusal_of, Malformed, passed_err, all_lines, first_wrong, later_wrong, some_lines}
use Rattle.cert_check.proofs.cert_lines.read_lines.Goals as goal

pub read_depth-requires : goal.read_depth-requires
read_depth-requires c = c.requires.each c.index-lines-0.result (member_at c.args.lines.now 0 c.index-lines-0.result (some_lines c.args.lines.now (sym c.is_empty.ensures ∙ c.if-is_empty.false)) c.index-lines-0.is)

pub read_steps-requires : goal.read_steps-requires
read_steps-requires c = record {
  each = λ line i. c.requires.each line (subst (λ l. In l line) (take-append-drop 1 c.args.lines.now) (In-right (take 1 c.args.lines.now) (drop 1 c.args.lines.now) line (subst (λ l. In l line) (take_rest c.args.lines.now 1) i)));
}

pub returns-in_err-depth-clause-fault : goal.returns-in_err-depth-clause-fault
returns-in_err-depth-clause-fault c =
    let lines : List WordsLine = map (words_line c.args.text.now) c.args.lines.now in
    let line : WordsLine = words_line c.args.text.now c.index-lines-0.result in
    passed_err c.from_residual.result c.in_err-depth.field-0.0 (OrMemory refusal_of (IsMalformed lines)) c.from_residual.ensures.1
    (OrMemory-map refusal_of (λ e. (fits_at 0 (said_of line.words) ≡ false) × (e ≡ Malformed line.number)) (IsMalformed lines) c.in_err-depth.field-0.0
    (λ e said. first_wrong c.args.text.now c.args.lines.now c.index-lines-0.result e (some_lines c.args.lines.now (sym c.is_empty.ensures ∙ c.if-is_empty.false)) c.index-lines-0.is said.0 said.1) c.in_err-depth.ensures)

pub returns-in_err-steps-clause-fault : goal.returns-in_err-steps-clause-fault
returns-in_err-steps-clause-fault c =
    let lines : List WordsLine = map (words_line c.args.text.now) c.args.lines.now in
    let rest : List LineValue = take (length c.args.lines.now - 1) (drop 1 c.args.lines.now) in
    passed_err c.from_residual-in_err-steps.result c.in_err-steps.field-0.0 (OrMemory refusal_of (IsMalformed lines)) c.from_residual-in_err-steps.ensures.1
    (OrMemory-map refusal_of (IsMisfit 1 (map (words_line c.args.text.now) rest)) (IsMalformed lines) c.in_err-steps.field-0.0
    (λ e misfit. later_wrong c.args.text.now c.args.lines.now c.index-lines-0.result c.in_ok-depth.depth e (some_lines c.args.lines.now (sym c.is_empty.ensures ∙ c.if-is_empty.false)) c.index-lines-0.is c.in_ok-depth.ensures
    (subst (λ (ls : List LineValue). IsMisfit 1 (map (words_line c.args.text.now) ls) e) (take_rest c.args.lines.now 1) misfit)) c.in_err-steps.ensures.fault)

pub returns-clause-certificate : goal.returns-clause-certificate
returns-clause-certificate c =
    all_lines c.args.text.now c.args.lines.now c.index-lines-0.result c.in_ok-depth.depth c.in_ok-steps.steps.items (some_lines c.args.lines.now (sym c.is_empty.ensures ∙ c.if-is_empty.false)) c.index-lines-0.is c.in_ok-depth.ensures
    (subst (λ (ls : List LineValue). AreSaid (map (words_line c.args.text.now) ls) (steps_said c.in_ok-steps.steps.items)) (take_rest c.args.lines.now 1) c.in_ok-steps.ensures.steps)
