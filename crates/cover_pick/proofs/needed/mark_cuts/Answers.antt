use Rattle.cover_pick.proofs.Lemmas.{◌≡◌, ◌<◌, ◌+◌, ◌*◌, ◌∙◌, ℕ, List, Bool, length, Option, None, Some, drop, get_or, refl, sym, ap, subst, arith, drop_more, drop_all, In, In-get_or, or_empty, cut_at, mark_leaves, mark_cut, mark_cuts, cut_in}
use Rattle.cover_pick.proofs.needed.mark_cuts.Goals as goal

-- a leaf is one of a cut that is there
leaf_of : (o : Option (List ℕ)) (m : ℕ) → In (or_empty o) m → (c : List ℕ) × (o ≡ Some c) × In c m
leaf_of None m i = absurd i
leaf_of (Some c) m i = (c, refl, i)

mark_one : (marks : List Bool) (o : Option (List ℕ)) → mark_leaves marks (or_empty o) ≡ mark_cut marks o
mark_one marks None = refl
mark_one marks (Some c) = refl

mark_next : (marks : List Bool) (cuts : List (Option (List ℕ))) (n : ℕ) → n < length cuts → mark_cuts (mark_leaves marks (or_empty (cut_at cuts n))) (drop (n + 1) cuts) ≡ mark_cuts marks (drop n cuts)
mark_next marks cuts n l = ap (λ ms. mark_cuts ms (drop (n + 1) cuts)) (mark_one marks (cut_at cuts n)) ∙ ap (λ cs. mark_cuts marks cs) (sym (drop_more cuts n None l))

pub mark_leaves-requires : goal.mark_leaves-requires
mark_leaves-requires c i l =
    let leaves : List ℕ = c.leaves.result.now in
    let m : ℕ = get_or leaves i 0 in
    let cuts = c.args.cuts.now in
    let j : In (or_empty (cut_at cuts c.loop-n.n)) m = subst (λ s. In s m) c.leaves.ensures (In-get_or leaves i 0 l) in
    let k = leaf_of (cut_at cuts c.loop-n.n) m j in
    let a : 2 * m < length c.args.marks.now = c.requires.inside k.0 m (cut_in cuts c.loop-n.n k.0 k.1) k.2 in omega arith

pub loop-n-preserved : goal.loop-n-preserved
loop-n-preserved c =
    rw (c.mark_leaves.ensures, c.leaves.ensures) (mark_next c.loop-n.marks c.args.cuts.now c.loop-n.n (omega (arith, c.requires.len)) ∙ c.loop-n.invariant)

pub returns : goal.returns
returns c = ap (λ cs. mark_cuts c.loop-n.marks cs) (sym (drop_all c.loop-n.n c.args.cuts.now (omega (arith, c.requires.len)))) ∙ c.loop-n.invariant
