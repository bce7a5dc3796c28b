-- Cuts that are chosen for some roots, each from the cuts of its node.
use Rattle.std.specs.Prelude.{◌≡◌, ℕ, List, length, Option}
use Rattle.cover_pick.specs.declared.choices.Choices.{Choices}
use Rattle.cover_pick.specs.Words.{AreNormal, AreRoots, Rule, Scope, first_and, label_at, lits_of, node_count}
use Rattle.cover_pick.specs.Counts.{count_at}
use Rattle.cover_pick.specs.Flow.{flows_by}
use Rattle.cover_pick.specs.Places.{AreBestPlaces}
use Rattle.cover_pick.specs.Planned.{cut_at, depths_of, IsPlanned, three_rounds, six_rounds}
use Rattle.cover_pick.specs.Ruled.{found_of}
use Rattle.cover_pick.specs.Served.{IsServing}

-- each AND node has cuts of which one is as low as its label, and the roots are of the graph
pub record CanChoose (rule : Rule) (c : Choices) : Type 0 where
  pub serving : IsServing rule c.graph.now (label_at c.labels.now) c.rows.now
  pub roots : AreRoots c.graph.now (lits_of c.roots.now)

-- the places of the cuts that are chosen by some flows
abbrev pub ArePlacesBy : Rule → Choices → List ℕ → List (Option ℕ) → Type 0
ArePlacesBy rule c flows places = AreBestPlaces c.graph.now c.rows.now (found_of rule c.graph.now c.rows.now (label_at c.labels.now) (lits_of c.roots.now) flows)
    (depths_of rule c.graph.now c.rows.now (label_at c.labels.now) (lits_of c.roots.now) flows) (first_and c.graph.now) places

-- the cuts that are chosen by some flows, one or none for each node
pub record AreCutsBy (rule : Rule) (c : Choices) (flows : List ℕ) (cuts : List (Option (List ℕ))) : Type 0 where
  pub plan : IsPlanned rule c.graph.now c.rows.now (label_at c.labels.now) (lits_of c.roots.now) flows (cut_at cuts)
  pub len : length cuts ≡ node_count c.graph.now
  pub normal : AreNormal (first_and c.graph.now) c.graph.now.pairs

-- the flows over some counts, and those of the first cover of the least cost of three rounds and of six from these counts on
abbrev pub flows_over : Choices → Scope → List ℕ → List ℕ
flows_over c scope counts = flows_by c.graph.now c.rows.now (label_at c.labels.now) scope (count_at counts)

abbrev pub three_over : Choices → Scope → List ℕ → List ℕ
three_over c scope counts = three_rounds c.graph.now c.rows.now (label_at c.labels.now) (lits_of c.roots.now) scope (flows_over c scope counts)

abbrev pub six_over : Choices → List ℕ → List ℕ
six_over c counts = six_rounds c.graph.now c.rows.now (label_at c.labels.now) (lits_of c.roots.now) (count_at counts)
