use Rattle.depth_first.proofs.Lemmas.{ap, ◌∙◌, WalkValue, rules, no_path}
use Rattle.depth_first.proofs.walk.Walk.visit.Goals as goal

pub visit_from-requires-clause-ready : goal.visit_from-requires-clause-ready
visit_from-requires-clause-ready g c = record {
  nodes = search rules;
  marks = search rules;
  settled = search rules;
  empty = no_path c.self.inside.frames.stack (ap (λ (v : WalkValue). v.path) c.self.view_is ∙ c.requires.path);
}
