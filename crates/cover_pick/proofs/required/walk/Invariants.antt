use Rattle.cover_pick.proofs.Common.{◌≡◌, ℕ, ◌+◌, ◌-◌, ◌<◌, length, first_and, label_at, choice_by, walk_by, met_at, ArePlacedFrom}
use Rattle.cover_pick.proofs.required.walk.Given as goal

abbrev pub invariant-loop-i : goal.invariant-loop-i
invariant-loop-i l = record {
  reqs : walk_by (choice_by l.rule l.rows (label_at l.labels) l.flows) (first_and l.graph) (length l.graph.pairs - l.i) l.reqs
      ≡ walk_by (choice_by l.rule l.rows (label_at l.labels) l.flows) (first_and l.graph) (length l.graph.pairs) l.initial.reqs;
  met : (j : ℕ) → j < length l.graph.pairs - l.i → met_at (choice_by l.rule l.rows (label_at l.labels) l.flows) (first_and l.graph) (length l.graph.pairs - l.i) l.reqs (first_and l.graph + j)
      ≡ met_at (choice_by l.rule l.rows (label_at l.labels) l.flows) (first_and l.graph) (length l.graph.pairs) l.initial.reqs (first_and l.graph + j);
  places : ArePlacedFrom l.rule l.graph l.rows l.labels l.flows l.initial.reqs l.reqs (first_and l.graph + (length l.graph.pairs - l.i)) l.places;
}
