use Rattle.std.proofs.Common.{◌∙◌, ap}
use Rattle.tl_fault.proofs.kept.keep.Goals as goal

pub returns-clause-value : goal.returns-clause-value
returns-clause-value c = ap (λ v. v.items) c.in_ok-new.ensures.ok ∙ c.in_ok-copy.ensures.items
