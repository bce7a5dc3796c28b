use Rattle.param_list.proofs.Common.{◌≡◌, List, length, map, Some, subst, arith, length-map, member_at, OrMemory-map, OrMemory, WordsLine, words_line, refusal_of, line_refusal, IsFirstRefusal, passed_err}
use Rattle.param_list.proofs.LineLemmas.{line_at, new_name, read_next, names_next, first_refusal, all_read}
use Rattle.param_list.proofs.param_lines.read_each.Goals as goal

pub read_line-requires-clause-within : goal.read_line-requires-clause-within
read_line-requires-clause-within c = c.requires.within.each c.line-item.result (member_at c.args.lines.now c.loop-line.line-index c.line-item.result c.loop-line-test.true c.line-item.is)

pub returns-in_err-param-clause-fault : goal.returns-in_err-param-clause-fault
returns-in_err-param-clause-fault c =
    let lines : List WordsLine = map (words_line c.args.text.now) c.args.lines.now in
    let line : WordsLine = words_line c.args.text.now c.line-item.result in
    passed_err c.from_residual.result c.in_err-param.field-0.0 (OrMemory refusal_of (IsFirstRefusal c.args.inputs.now c.args.clocks.now lines)) c.from_residual.ensures.1
    (OrMemory-map refusal_of (λ e. line_refusal c.args.inputs.now c.args.clocks.now c.loop-line.seen line ≡ Some e) (IsFirstRefusal c.args.inputs.now c.args.clocks.now lines) c.in_err-param.field-0.0
    (λ e is. first_refusal c.args.inputs.now c.args.clocks.now lines c.loop-line.line-index c.loop-line.params.items c.loop-line.invariant.read line
    (line_at c.args.text.now c.args.lines.now c.loop-line.line-index c.line-item.result c.loop-line-test.true c.line-item.is) e
    (subst (λ seen. line_refusal c.args.inputs.now c.args.clocks.now seen line ≡ Some e) c.loop-line.invariant.seen is)) c.in_err-param.ensures)

pub add-requires : goal.add-requires
add-requires c = new_name c.args.text.now c.args.lines.now c.loop-line.line-index c.line-item.result c.loop-line-test.true c.line-item.is c.args.inputs.now c.in_ok-param.param c.in_ok-param.ensures.1
    c.args.clocks.now c.loop-line.seen c.in_ok-param.ensures.0

pub loop-line-preserved : goal.loop-line-preserved
loop-line-preserved c = record {
  read = read_next c.args.text.now c.args.lines.now c.loop-line.line-index c.line-item.result c.loop-line-test.true c.line-item.is c.args.inputs.now c.in_ok-param.param c.in_ok-param.ensures.1
      c.args.clocks.now c.loop-line.seen c.loop-line.params.items c.add.new.params.items c.requires.clean c.in_ok-param.ensures.0 c.loop-line.invariant.seen c.in_ok-add.ensures.params c.loop-line.invariant.read;
  seen = names_next c.args.text.now c.args.lines.now c.loop-line.line-index c.line-item.result c.loop-line-test.true c.line-item.is c.args.inputs.now c.in_ok-param.param c.in_ok-param.ensures.1
      c.loop-line.seen c.add.new.seen c.loop-line.params.items c.add.new.params.items c.loop-line.invariant.seen c.in_ok-add.ensures.params c.in_ok-add.ensures.seen;
}

pub returns-clause-params : goal.returns-clause-params
returns-clause-params c =
    let lines : List WordsLine = map (words_line c.args.text.now) c.args.lines.now in
    let same : length lines ≡ length c.args.lines.now = length-map c.args.lines.now (words_line c.args.text.now) in
    let end : c.loop-line.line-index ≡ length lines = omega arith in
    all_read c.args.inputs.now c.args.clocks.now lines c.loop-line.line-index c.loop-line.params.items c.loop-line.invariant.read end
