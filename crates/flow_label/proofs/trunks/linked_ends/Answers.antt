use Rattle.flow_label.proofs.Common.{◌≡◌, ◌∷◌, [], ◌++◌, ◌∙◌, ap, sym, subst, inl, inr, get_or, In, In-push, IsOpen, net_of, owner_in}
use Rattle.flow_label.proofs.trunks.linked_ends.Goals as goal
use Rattle.flow_label.proofs.trunks.linked_ends.Goals.{then-is_linked_end+in_ok-push, else-is_linked_end}

pub loop-m-preserved : goal.loop-m-preserved
loop-m-preserved c = λ m i. elim c.if-is_linked_end.branch [
  | then-is_linked_end+in_ok-push w ↦ (
      let items : c.if-is_linked_end.nodes.items ≡ c.loop-m.nodes.items ++ get_or c.ends-m-items.result.now c.loop-m.m-index 0 ∷ [] = ap (λ v. v.items) w.nodes-is ∙ w.in_ok-push.ensures.items in
      elim (In-push c.loop-m.nodes.items (get_or c.ends-m-items.result.now c.loop-m.m-index 0) m (subst (λ xs. In xs m) items i)) [
        | inl j ↦ c.loop-m.invariant m j
        | inr e ↦ subst (λ x. IsOpen (net_of c.args.site.now) x × (owner_in c.args.site.now c.args.links.now.owners x ≡ c.args.site.now.node)) (sym e) (c.is_linked_end.ensures w.if-is_linked_end.true)
      ])
  | else-is_linked_end w ↦ c.loop-m.invariant m (subst (λ xs. In xs m) (ap (λ v. v.items) w.nodes-is) i)
]
