use Rattle.cover_pick.proofs.Lemmas.{ℕ, List, length, ap, subst, arith, In, Lut, member_at, leaf_inside}
use Rattle.cover_pick.proofs.free.no_leaves.Goals as goal

pub bar_leaves-requires : goal.bar_leaves-requires
bar_leaves-requires c = λ m i.
    let t : Lut = c.lut-item.result in
    let among : In c.args.luts.now t = member_at c.args.luts.now c.loop-lut.lut-index t (omega arith) c.lut-item.is in
    omega (arith, leaf_inside c.args.graph.now m (c.requires t m among (subst (λ (ls : List ℕ). In ls m) c.leaves.ensures i)), c.loop-lut.invariant.long, ap length c.deref_mut.ensures.value)
