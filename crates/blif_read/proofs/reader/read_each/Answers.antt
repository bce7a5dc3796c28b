use Rattle.blif_read.proofs.Common.{◌≡◌, ◌∷◌, ◌∙◌, sym, ap, subst, inr, rules, List, into_iter_items, In, LineValue, statements, steps}
use Rattle.blif_read.proofs.reader.read_each.Goals as goal

pub loop-line-preserved : goal.loop-line-preserved
loop-line-preserved c =
    let rest : List LineValue = into_iter_items c.next.new.self in
    let step : steps c.step.new.reader (statements c.args.text.now rest) ≡ steps c.loop-line.reader (statements c.args.text.now (c.in-Some.line ∷ rest)) = search rules in
    record {
      next = _;
      ends = _;
      lines = record { each = λ line among. c.loop-line.invariant.lines.each line (subst (λ (items : List LineValue). In items line) (sym c.in-Some.ensures.steps.0) (inr among)) };
      read = step ∙ ap (λ (items : List LineValue). steps c.loop-line.reader (statements c.args.text.now items)) (sym c.in-Some.ensures.steps.0) ∙ c.loop-line.invariant.read;
    }
