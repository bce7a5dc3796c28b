use Rattle.cover_pick.proofs.Lemmas.{◌∙◌, Bool, List, ap, subst, sym, arith, mark_of, HasFreeParts, free_start, free_step}
use Rattle.cover_pick.proofs.free.free_nodes.Goals as goal

pub loop-n-init : goal.loop-n-init
loop-n-init c = free_start c.args.graph.now c.args.luts.now c.in_ok-marks.marks.items c.requires c.in_ok-marks.ensures

pub loop-n-preserved : goal.loop-n-preserved
loop-n-preserved c =
    free_step c.args.graph.now c.args.luts.now c.loop-n.marks.items c.loop-n.n c.free_mark.result c.free_mark.ensures.normal (omega arith)
    (λ e. ap (λ (ms : List Bool). mark_of ms c.loop-n.n) (sym c.deref.ensures.value) ∙ c.free_mark.ensures.own e)
    (λ e. subst (λ (ms : List Bool). HasFreeParts c.args.graph.now ms c.loop-n.n) c.deref.ensures.value (c.free_mark.ensures.parts e))
    (λ e f. c.free_mark.ensures.whole (ap (λ (ms : List Bool). mark_of ms c.loop-n.n) c.deref.ensures.value ∙ e) (subst (λ (ms : List Bool). HasFreeParts c.args.graph.now ms c.loop-n.n) (sym c.deref.ensures.value) f))
    c.loop-n.invariant
