use Rattle.depth_first.proofs.Lemmas.{◌∙◌, take, refl, ap, path_of, WalkValue, from_node, path_all, from_here, from_before}
use Rattle.depth_first.proofs.walk.Walk.path_from.Goals.{then-node-frame, else-node-frame}
use Rattle.depth_first.proofs.walk.Walk.path_from.Goals as goal

pub returns : goal.returns
returns c =
    c.loop-frame.invariant
    ∙ ap (from_node c.args.node) (path_all c.stack-frame-items.result.now c.self.inside.frames.stack c.loop-frame.frame-index (path_of (take c.loop-frame.frame-index c.stack-frame-items.result.now))
    c.loop-frame.auto.frame-index-end c.loop-frame-test.false refl c.stack-frame-items.ensures ∙ ap (λ (v : WalkValue). v.path) c.self.view_is)

pub loop-frame-preserved : goal.loop-frame-preserved
loop-frame-preserved c = c.in_ok-push.ensures.items
    ∙ elim c.if-node-frame.branch [
      | then-node-frame w ↦ from_here c.stack-frame-items.result.now c.loop-frame.frame-index (record { node = 0; place = 0 }) c.args.node c.loop-frame-test.true c.if-node-frame.nodes.items w.if-node-frame.true (ap (λ (v : _). v.items) w.nodes-is ∙ w.clear.ensures.items)
      | else-node-frame w ↦ from_before c.stack-frame-items.result.now c.loop-frame.frame-index (record { node = 0; place = 0 }) c.args.node c.loop-frame-test.true c.if-node-frame.nodes.items w.if-node-frame.false (ap (λ (v : _). v.items) w.nodes-is ∙ c.loop-frame.invariant)
    ]
