use Rattle.cover_pick.proofs.Lemmas.{arith, ◌+◌, List, ◌∷◌, drop, drop_all, subst, inl, refl, Lut, IsOwnWorkTo, once_in, AreMet, member_at, drop_at, AreOwnCounted, counted_start, counted_step, counted_past, own_end}
use Rattle.cover_pick.proofs.work.own_works.Goals as goal

pub loop-lut-init : goal.loop-lut-init
loop-lut-init c = counted_start c.args.graph.now c.args.once.now c.args.luts.now c.args.search.now c.requires.luts c.requires.met c.requires.len c.requires.stamps

pub own_work-requires-clause-node : goal.own_work-requires-clause-node
own_work-requires-clause-node c = c.requires.luts.inside c.lut-item.result (member_at c.args.luts.now c.loop-lut.lut-index c.lut-item.result (omega arith) c.lut-item.is)

pub own_work-requires-clause-stamps : goal.own_work-requires-clause-stamps
own_work-requires-clause-stamps c =
    let a : AreOwnCounted c.args.graph.now c.args.once.now c.args.luts.now (c.lut-item.result ∷ drop (c.loop-lut.lut-index + 1) c.args.luts.now) c.loop-lut.work c.loop-lut.search =
    subst (λ (us : List Lut). AreOwnCounted c.args.graph.now c.args.once.now c.args.luts.now us c.loop-lut.work c.loop-lut.search) (drop_at c.args.luts.now c.loop-lut.lut-index c.lut-item.result (omega arith) c.lut-item.is) c.loop-lut.invariant in
    a.stamps c.lut-item.result (inl refl)

pub own_work-requires-clause-once : goal.own_work-requires-clause-once
own_work-requires-clause-once c = λ m e. (c.loop-lut.invariant.met.only m e).0

pub returns-then-work-gt-MOST_WORK-clause-past : goal.returns-then-work-gt-MOST_WORK-clause-past
returns-then-work-gt-MOST_WORK-clause-past c =
    counted_past c.args.graph.now c.args.once.now c.args.luts.now (drop c.loop-lut.lut-index c.args.luts.now) (drop (c.loop-lut.lut-index + 1) c.args.luts.now) c.lut-item.result c.loop-lut.work c.in_ok-work.field-0 c.loop-lut.search
    (drop_at c.args.luts.now c.loop-lut.lut-index c.lut-item.result (omega arith) c.lut-item.is) c.len-count.ensures.normal c.requires.luts c.in_ok-work.ensures.work (omega arith) c.loop-lut.invariant

pub loop-lut-preserved : goal.loop-lut-preserved
loop-lut-preserved c =
    counted_step c.args.graph.now c.args.once.now c.args.luts.now (drop c.loop-lut.lut-index c.args.luts.now) (drop (c.loop-lut.lut-index + 1) c.args.luts.now) c.lut-item.result c.loop-lut.work c.in_ok-work.field-0 c.loop-lut.search c.own_work.new.search
    (drop_at c.args.luts.now c.loop-lut.lut-index c.lut-item.result (omega arith) c.lut-item.is) c.in_ok-work.ensures.work (omega arith) c.in_ok-work.ensures.len c.in_ok-work.ensures.stamps c.in_ok-work.ensures.met c.loop-lut.invariant

pub returns-clause-own : goal.returns-clause-own
returns-clause-own c =
    own_end c.args.graph.now (once_in c.args.once.now) c.args.luts.now c.loop-lut.work
    (subst (λ (us : List Lut). IsOwnWorkTo c.args.graph.now (once_in c.args.once.now) c.args.luts.now us c.loop-lut.work) (drop_all c.loop-lut.lut-index c.args.luts.now (omega arith)) c.loop-lut.invariant.own)

pub returns-clause-met : goal.returns-clause-met
returns-clause-met c =
    subst (λ (us : List Lut). AreMet c.args.graph.now c.args.once.now c.args.luts.now us c.loop-lut.search.met) (drop_all c.loop-lut.lut-index c.args.luts.now (omega arith)) c.loop-lut.invariant.met
