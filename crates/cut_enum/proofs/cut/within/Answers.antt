use Rattle.cut_enum.proofs.Common.{sym, ◌∙◌, subset_true, subset_from}
use Rattle.cut_enum.proofs.cut.within.Goals as goal

pub returns : goal.returns
returns c = ((λ t. subset_true c.args.a.now c.args.b.now (sym c.is_part.ensures ∙ t)), λ w. c.is_part.ensures ∙ subset_from c.args.a.now c.args.b.now w)
