use Rattle.depth_first.proofs.Lemmas.{◌<◌, length, refl, sym, ap, ◌∙◌, subst, inl, In, FramesValue, renewed, renewed_since, first_others, renew_within, renew_step}
use Rattle.depth_first.proofs.frames.renew_since.Goals as goal

pub renew-requires : goal.renew-requires
renew-requires c = let v = c.loop-frames.frames in let n = c.in-Some.n in
    subst (λ (x : FramesValue). n < length x.marks) (sym c.pop_begun.ensures.rest)
    (c.loop-frames.invariant.0 n (subst (λ x. In x n) (sym (first_others v.begun n (sym c.pop_begun.ensures.last ∙ c.in-Some.is))) (inl refl)))

pub loop-frames-preserved : goal.loop-frames-preserved
loop-frames-preserved c = let v = c.loop-frames.frames in let n = c.in-Some.n in
    let f = sym c.pop_begun.ensures.last ∙ c.in-Some.is in
    let e = c.renew.ensures ∙ ap (λ x. renewed x n) c.pop_begun.ensures.rest in (
      renew_within v n f c.loop-frames.invariant.0 c.renew.new.self e,
      ap (renewed_since c.args.count) e ∙ renew_step v c.args.count n f (subst (λ x. c.args.count < x) c.begun_count.ensures c.loop-frames-test.true) ∙ c.loop-frames.invariant.1,
    )
