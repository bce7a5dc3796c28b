use Rattle.cut_sets.proofs.SignatureLemmas.{subset-signature}
use Rattle.cut_enum.proofs.cut.is_part.Goals as goal

pub returns-then-a-b : goal.returns-then-a-b
returns-then-a-b c =
    rw (← c.a.view_is, ← c.b.view_is) (subset-signature c.a.inside.leaves.items c.b.inside.leaves.items (rw (c.a.invariant.signed, c.b.invariant.signed) at c.if-a-b.true))
