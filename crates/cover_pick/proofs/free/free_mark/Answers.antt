use Rattle.cover_pick.proofs.free.free_mark.Goals as goal

pub returns-then-parts-clause-parts : goal.returns-then-parts-clause-parts
returns-then-parts-clause-parts c = λ e. c.is_free-parts.ensures.parts c.if-parts.true
