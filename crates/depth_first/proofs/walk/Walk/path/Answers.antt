use Rattle.depth_first.proofs.Lemmas.{ap, ◌∙◌, WalkValue, path_more, path_all}
use Rattle.depth_first.proofs.walk.Walk.path.Goals as goal

pub returns : goal.returns
returns c = path_all c.stack-frame-items.result.now c.self.inside.frames.stack c.loop-frame.frame-index c.loop-frame.path.items
    c.loop-frame.auto.frame-index-end c.loop-frame-test.false c.loop-frame.invariant c.stack-frame-items.ensures ∙ ap (λ (v : WalkValue). v.path) c.self.view_is

pub loop-frame-preserved : goal.loop-frame-preserved
loop-frame-preserved c = c.in_ok-push.ensures.items
    ∙ path_more c.stack-frame-items.result.now c.loop-frame.frame-index (record { node = 0; place = 0 }) c.loop-frame.path.items c.loop-frame-test.true c.loop-frame.invariant
