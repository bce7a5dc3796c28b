use Rattle.spec_core.proofs.Common.{◌≡◌, ◌+◌, Bool, List, FitsGraph, IsSweeping}
use Rattle.spec_core.proofs.LeastLemmas.{places_left}
use Rattle.spec_core.proofs.evaluation.Evaluation.sweep.Given as goal

abbrev pub invariant-loop-n : goal.invariant-loop-n
invariant-loop-n g l = record {
  pack : l.self.pack ≡ l.initial.self.pack;
  readers : l.self.readers ≡ l.initial.self.readers;
  sweeping : (old new p q : List Bool) → FitsGraph l.initial.self.pack.graph p old → FitsGraph l.initial.self.pack.graph q new
      → IsSweeping l.initial.self.pack old new l.initial.self.now l.initial.steps l.initial.steps → IsSweeping l.initial.self.pack old new l.self.now l.initial.steps l.steps;
  counted : l.self.reads + l.initial.steps ≡ l.initial.self.reads + l.steps;
}

abbrev pub decreases-loop-n : goal.decreases-loop-n
decreases-loop-n g l = places_left l.self.now.nodes
