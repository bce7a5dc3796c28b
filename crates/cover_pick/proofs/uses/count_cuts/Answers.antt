use Rattle.cover_pick.proofs.Common.{◌≡◌, ◌≤◌, ◌+◌, ◌∙◌, ℕ, List, get_or, ap, subst, arith, In, In-get_or, or_empty, cut_at, count_at, count_each, times_in}
use Rattle.cover_pick.proofs.UsesLemmas.{leaf_inside, used_room, used_next}
use Rattle.cover_pick.proofs.uses.count_cuts.Goals as goal

pub count_leaves-requires-clause-inside : goal.count_leaves-requires-clause-inside
count_leaves-requires-clause-inside c i l =
    let leaves : List ℕ = c.leaves.result.now in
    let j : In (or_empty (cut_at c.args.cuts.now c.loop-n.n)) (get_or leaves i 0) = subst (λ s. In s (get_or leaves i 0)) c.leaves.ensures (In-get_or leaves i 0 l) in
    omega (arith, leaf_inside c.args.graph.now (cut_at c.args.cuts.now) c.requires.leaves c.loop-n.n (get_or leaves i 0) j, c.loop-n.invariant.size)

pub count_leaves-requires-clause-room : goal.count_leaves-requires-clause-room
count_leaves-requires-clause-room c m l =
    let same : times_in m c.leaves.result.now ≡ times_in m (or_empty (cut_at c.args.cuts.now c.loop-n.n)) = ap (λ ms. times_in m ms) c.leaves.ensures in
    let room : count_at c.loop-n.counts m + times_in m (or_empty (cut_at c.args.cuts.now c.loop-n.n)) ≤ c.loop-n.n + 1 = used_room c.args.graph.now (cut_at c.args.cuts.now) c.requires.leaves c.loop-n.n m c.loop-n.counts c.loop-n.invariant (omega arith) in
    omega (arith, c.loop-n.invariant.size)

pub loop-n-preserved : goal.loop-n-preserved
loop-n-preserved c =
    used_next c.args.graph.now (cut_at c.args.cuts.now) c.requires.leaves c.loop-n.n c.loop-n.counts c.count_leaves.new.counts c.loop-n.invariant
    (c.count_leaves.ensures ∙ ap (λ ms. count_each c.loop-n.counts ms) c.leaves.ensures)
