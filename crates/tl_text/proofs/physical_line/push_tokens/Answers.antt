use Rattle.std.proofs.Common.{ap, arith, ◌++◌}
use Rattle.tl_text.proofs.SpanLemmas.{spans_tokens}
use Rattle.tl_text.proofs.physical_line.push_tokens.Goals as goal

pub loop-b-init : goal.loop-b-init
loop-b-init c = record {
  here = omega arith;
  same = ap (λ ts. c.args.tokens.now.items ++ ts) (spans_tokens c.args.at c.args.line.now);
}
