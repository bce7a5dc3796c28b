use Rattle.cover_pick.proofs.Lemmas.{rules, ◌≡◌, ◌∙◌, ℕ, List, None, length, drop, replicate, sym, ap, subst, take_at, first_and, node_count, lits_of, label_at, target, require_roots, roots_required, ArePlacesBy, places_chosen}
use Rattle.cover_pick.proofs.required.chosen_places.Goals as goal

pub returns-clause-places : goal.returns-clause-places
returns-clause-places c =
    let g = c.args.choices.now.graph.now in
    let rows = c.args.choices.now.rows.now in
    let label : ℕ → ℕ = label_at c.args.choices.now.labels.now in
    let roots : List ℕ = lits_of c.args.choices.now.roots.now in
    let long : length c.walk.new.places ≡ c.in_ok-places.places.len = search rules in
    let whole : length c.require_roots.new.reqs ≡ c.in_ok-depths.depths.len = search rules in
    let none : c.deref_mut.result.now ≡ replicate (node_count g) None = search rules in
    let start : c.deref_mut-2.result.now ≡ roots_required g roots (target g label roots) =
    c.deref_mut-2.ensures.value
    ∙ (take_at c.require_roots.new.reqs (drop (length c.require_roots.new.reqs) c.in_ok-depths.depths.items) c.in_ok-depths.depths.len whole
    ∙ (c.require_roots.ensures ∙ (ap (λ s. require_roots (first_and g) c.target-t.result s roots) none ∙ ap (λ t. require_roots (first_and g) t (replicate (node_count g) None) roots) c.target-t.ensures))) in
    subst (ArePlacesBy c.args.rule c.args.choices.now c.args.flows.now)
    (sym (take_at c.walk.new.places (drop (length c.walk.new.places) c.in_ok-places.places.items) c.in_ok-places.places.len long))
    (places_chosen c.args.rule g rows label roots c.args.flows.now c.deref_mut-2.result.now c.walk.new.reqs c.walk.new.places start c.walk.ensures.reqs c.walk.ensures.places)
