use Rattle.depth_first.proofs.Lemmas.{ap, ◌∙◌, WalkValue, with_count, cleared_fits, cleared_seen}
use Rattle.depth_first.proofs.walk.Walk.clear.Goals as goal

pub invariant_of-self : goal.invariant_of-self
invariant_of-self c = cleared_fits c.self.inside.frames c.forget.new.frames c.self.invariant c.forget.ensures

pub returns : goal.returns
returns c = cleared_seen c.self.inside.frames c.forget.new.frames c.forget.ensures ∙ ap with_count (ap (λ (v : WalkValue). v.count) c.self.view_is)
