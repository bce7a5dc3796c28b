use Rattle.cover_pick.proofs.Lemmas.{ℕ, List, [], Bool, subst, subst₂, lits_of, label_at, low_in, count_at, favoured_in, LeastCost, AreSets, IsPlanned, six_rounds, cut_at, Sets, HasPlan, roots_inside, leaves_by, makings_plan, are_picked, can_make, can_make_cheaper}
use Rattle.cover_pick.proofs.makings.cheapest_tables.Goals as goal

pub uses-requires : goal.uses-requires
uses-requires c = leaves_by _ _ c.in_ok-best.best (record { serving = c.in_ok-first.ensures.serving; roots = c.requires.roots }) c.in_ok-best.ensures

pub sharing_tables-requires : goal.sharing_tables-requires
sharing_tables-requires c = can_make_cheaper c.args.graph.now (lits_of c.args.roots.now) c.in_ok-best.best c.in_ok-other.other c.cheaper-cuts.result
    (can_make LeastCost _ _ c.in_ok-best.best (record { serving = c.in_ok-first.ensures.serving; roots = c.requires.roots }) c.in_ok-best.ensures)
    (can_make LeastCost _ _ c.in_ok-other.other (record { serving = c.in_ok-second.ensures.serving; roots = c.requires.roots }) c.in_ok-other.ensures) c.cheaper-cuts.ensures.value

pub returns : goal.returns
returns c =
    let g = c.args.graph.now in
    let label : ℕ → ℕ = label_at c.args.labels.now in
    let lows : ℕ → List ℕ = low_in c.args.lows.now in
    let roots : List ℕ = lits_of c.args.roots.now in
    let has : HasPlan (Sets c.args.k lows) g label roots c.cheaper-cuts.result =
    makings_plan g c.args.k lows label roots (roots_inside g roots c.requires.roots) c.len-count.ensures.normal c.in_ok-first.first c.in_ok-second.second c.in_ok-fans.fans.items c.in_ok-used.used.items c.in_ok-needed.needed.items
    c.in_ok-best.best c.in_ok-other.other c.cheaper-cuts.result c.in_ok-fans.ensures
    (subst (λ (s : List ℕ). AreSets g c.args.k label lows (count_at s) (favoured_in []) c.in_ok-first.first) c.deref.ensures.value c.in_ok-first.ensures.sets) c.in_ok-first.ensures.serving
    (subst (λ (s : List ℕ). IsPlanned LeastCost g c.in_ok-first.first label roots (six_rounds g c.in_ok-first.first label roots (count_at s)) (cut_at c.in_ok-best.best)) c.deref-2.ensures.value c.in_ok-best.ensures.plan) c.in_ok-best.ensures.len
    c.in_ok-used.ensures c.in_ok-needed.ensures.len c.in_ok-needed.ensures.each
    (subst₂ (λ (s : List ℕ) (f : List Bool). AreSets g c.args.k label lows (count_at s) (favoured_in f) c.in_ok-second.second) c.deref-3.ensures.value c.deref-4.ensures.value c.in_ok-second.ensures.sets) c.in_ok-second.ensures.serving
    (subst (λ (s : List ℕ). IsPlanned LeastCost g c.in_ok-second.second label roots (six_rounds g c.in_ok-second.second label roots (count_at s)) (cut_at c.in_ok-other.other)) c.deref-5.ensures.value c.in_ok-other.ensures.plan)
    c.cheaper-cuts.ensures.value in
    are_picked (Sets c.args.k lows) g label roots c.cheaper-cuts.result has c.requires.roots c.sharing_tables.result c.sharing_tables.ensures.ok c.sharing_tables.ensures.light c.sharing_tables.ensures.err
