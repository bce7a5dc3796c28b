use Rattle.depth_first.proofs.Lemmas.{◌<◌, length, sym, ap, ◌∙◌, subst, FramesValue, renewed, first_within, forget_step}
use Rattle.depth_first.proofs.frames.forget.Goals as goal

pub renew-requires : goal.renew-requires
renew-requires c = subst (λ (x : FramesValue). c.in-Some.n < length x.marks) (sym c.pop_begun.ensures.rest)
    (first_within c.args.frames.now c.loop-n.frames c.in-Some.n (sym c.pop_begun.ensures.last ∙ c.in-Some.is) c.loop-n.invariant)

pub loop-n-preserved : goal.loop-n-preserved
loop-n-preserved c = forget_step c.args.frames.now c.loop-n.frames c.in-Some.n (sym c.pop_begun.ensures.last ∙ c.in-Some.is) c.loop-n.invariant c.renew.new.self
    (c.renew.ensures ∙ ap (λ x. renewed x c.in-Some.n) c.pop_begun.ensures.rest)
