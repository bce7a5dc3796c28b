use Rattle.cover_pick.proofs.Lemmas.{◌∙◌, sym, ap, arith, Some, has_fan_ins, no_parts, parts_marked}
use Rattle.cover_pick.proofs.free.is_free.Goals as goal

pub returns-then-is_marked-clause-parts : goal.returns-then-is_marked-clause-parts
returns-then-is_marked-clause-parts c = λ e.
    has_fan_ins c.pair_at-pair.result (record { above = omega (arith, c.sources-sources.ensures.count, c.if-n-sources.false, c.if-n-eq0.false); is = c.pair_at-pair.ensures.pair })
    (sym c.is_marked.ensures ∙ c.if-is_marked.true) (sym c.is_marked-then-is_marked.ensures ∙ e)

pub returns-in-Regular-clause-whole : goal.returns-in-Regular-clause-whole
returns-in-Regular-clause-whole c = λ f. absurd (no_parts c.args.graph.now c.args.marks.now c.args.n (omega (arith, c.if-n-eq0.false)) (c.kind.ensures ∙ ap (λ k. Some k) c.in-Regular.is) f)

pub returns-then-is_marked-clause-whole : goal.returns-then-is_marked-clause-whole
returns-then-is_marked-clause-whole c = λ f.
    c.is_marked-then-is_marked.ensures
    ∙ (parts_marked c.args.graph.now c.args.marks.now c.args.n c.pair_at-pair.result (record { above = omega (arith, c.sources-sources.ensures.count, c.if-n-sources.false, c.if-n-eq0.false); is = c.pair_at-pair.ensures.pair }) f).1
