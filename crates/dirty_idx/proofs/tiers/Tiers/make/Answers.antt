use Rattle.dirty_idx.proofs.MarkLemmas.{marks_zeros}
use Rattle.dirty_idx.proofs.tiers.Tiers.make.Goals as goal

pub returns : goal.returns
returns c = rw (c.in_ok-words.ensures.items_if_clones_equal (λ y h. h)) (marks_zeros c.args.size _ _)
