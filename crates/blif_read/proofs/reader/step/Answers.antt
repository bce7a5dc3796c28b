use Rattle.blif_read.proofs.Common.{◌≡◌, subst, None, Some, MatchResult, StatementValue, line_fault, OrMemory, refusal_of, context, next}
use Rattle.blif_read.proofs.TextLemmas.{step_inside}
use Rattle.blif_read.proofs.reader.step.Goals as goal

pub returns-in_default : goal.returns-in_default
returns-in_default c =
    subst (λ (l : StatementValue). MatchResult c.inside.result (λ _. (line_fault (context c.args.reader.now) l ≡ None) × (c.inside.new.reader ≡ next c.args.reader.now l)) (OrMemory refusal_of (λ e. line_fault (context c.args.reader.now) l ≡ Some e)))
    c.line.view_is
    (step_inside c.inside.result c.args.reader.now c.inside.new.reader (record { number = c.line.inside.number; keyword = c.line.inside.keyword; arguments = c.line.inside.arguments.items })
    c.in_default.not-Model c.in_default.not-End c.in_default.not-Unknown c.inside.ensures)
