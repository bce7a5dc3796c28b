use Rattle.flow_label.proofs.Common.{◌≡◌, ◌<◌, ◌∙◌, length, get_or, In-place, IsInner, IsFanIn, net_of, owner_in, subst, sym, ap, inl, inr, arith, cases_lt}
use Rattle.flow_label.proofs.FloorLemmas.{inner_false}
use Rattle.flow_label.proofs.tight.pass_open.Goals as goal
use Rattle.flow_label.proofs.tight.pass_open.Goals.{else-is_inner-via-then-is_inner+else-not-reads_open, else-is_inner-via-else-is_inner}

pub loop-u-preserved : goal.loop-u-preserved
loop-u-preserved c = λ j m l inner f live. elim (cases_lt j c.loop-u.u-index) [
  | inl b ↦ c.loop-u.invariant j m b inner f live
  | inr b ↦ (
      let at : j ≡ c.loop-u.u-index = omega arith in
      let own : owner_in c.args.site.now c.args.links.now.owners (get_or c.args.queue.now j 0) ≡ c.owner-a.result = ap (λ i. owner_in c.args.site.now c.args.links.now.owners (get_or c.args.queue.now i 0)) at ∙ sym c.owner-a.ensures in
      let is : IsInner (net_of c.args.site.now) c.owner-a.result = subst (λ a. IsInner (net_of c.args.site.now) a) own inner in
      elim c.else-is_inner.branch [
        | else-is_inner-via-then-is_inner+else-not-reads_open w ↦ w.reads_open.ensures w.if-not-reads_open.false m (subst (λ a. IsFanIn c.args.site.now.graph m a) own f) live
        | else-is_inner-via-else-is_inner w ↦ absurd (inner_false c.args.site.now c.owner-a.result (sym c.is_inner.ensures ∙ w.if-is_inner.false) is)
      ])
]

pub returns : goal.returns
returns c = λ e u m i inner f live.
    let p = In-place c.args.queue.now u i in
    let l : p.0 < length c.args.queue.now = p.1 in
    c.loop-u.invariant p.0 m (omega (arith, c.loop-u-test.false)) (subst (λ x. IsInner (net_of c.args.site.now) (owner_in c.args.site.now c.args.links.now.owners x)) (sym p.2) inner)
    (subst (λ x. IsFanIn c.args.site.now.graph m (owner_in c.args.site.now c.args.links.now.owners x)) (sym p.2) f) live
