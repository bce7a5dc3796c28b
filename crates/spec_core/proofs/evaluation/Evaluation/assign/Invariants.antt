use Rattle.spec_core.proofs.Common.{◌≡◌, drop, with_assigned}
use Rattle.spec_core.proofs.evaluation.Evaluation.assign.Given as goal

abbrev pub invariant-loop-assign : goal.invariant-loop-assign
invariant-loop-assign l = record {
  pack : l.self.pack ≡ l.initial.self.pack;
  readers : l.self.readers ≡ l.initial.self.readers;
  reads : l.self.reads ≡ l.initial.self.reads;
  now : with_assigned l.initial.self.readers l.self.now (drop l.assign-index l.assigns) ≡ with_assigned l.initial.self.readers l.initial.self.now l.assigns;
}
