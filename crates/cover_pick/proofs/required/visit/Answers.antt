use Rattle.cover_pick.proofs.Lemmas.{arith, ◌<◌, ◌≡◌, ◌∙◌, [], Some, subst, ap, List, ℕ, get_or, length, slice_get, get_or_from_slice_get, Aig, IsAnd, In, In-get_or, row_at, label_at, Rule, IsServing, need, each_other}
use Rattle.cover_pick.proofs.required.visit.Goals as goal

-- the leaves of a cut at a place are below the node
below : (rule : Rule) (g : Aig) (label : ℕ → ℕ) (rows : List (List (List ℕ))) (n place : ℕ) (leaves : List ℕ) → IsServing rule g label rows → IsAnd g n → place < length (row_at rows n) → slice_get (row_at rows n) place ≡ Some leaves → (m : ℕ) → In leaves m → m < n
below rule g label rows n place leaves serving node inside at m i =
    ((serving.served.serving.cuts n leaves node (subst (λ x. In (row_at rows n) x) (get_or_from_slice_get (row_at rows n) place leaves [] at) (In-get_or (row_at rows n) place [] inside))).below m i).0

pub require_each-requires : goal.require_each-requires
require_each-requires c i l =
    let leaves : List ℕ = c.leaves.result.now in
    omega (arith, below c.args.rule c.args.graph.now (label_at c.args.labels.now) c.args.rows.now c.args.n c.in_ok-place.place leaves c.requires.serving c.requires.node (c.choose.ensures.inside c.in_ok-place.place c.in_ok-place.was) c.leaves.ensures.leaves (get_or leaves i 0) (In-get_or leaves i 0 l))

pub returns-clause-above : goal.returns-clause-above
returns-clause-above c m le =
    let leaves : List ℕ = c.leaves.result.now in
    ap (λ s. need s m) c.require_each.ensures
    ∙ each_other leaves c.args.reqs.now c.saturating_sub.result m
    (λ i. absurd (let b : m < c.args.n = below c.args.rule c.args.graph.now (label_at c.args.labels.now) c.args.rows.now c.args.n c.in_ok-place.place leaves c.requires.serving c.requires.node (c.choose.ensures.inside c.in_ok-place.place c.in_ok-place.was) c.leaves.ensures.leaves m i in omega arith))
