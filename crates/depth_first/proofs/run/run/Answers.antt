use Rattle.std.proofs.Common.{sym, ◌∙◌}
use Rattle.depth_first.proofs.Lemmas.{later_none, later_step, grown_none, grown_on}
use Rattle.depth_first.proofs.run.run.Goals as goal

pub loop-frame-init : goal.loop-frame-init
loop-frame-init g c = let e = g.G.Successors.edges c.args.graph.now in let n = g.G.Successors.is_node c.args.graph.now in
    (later_none e n c.args.frames.now c.requires.going, grown_none c.args.frames.now)

pub loop-frame-preserved : goal.loop-frame-preserved
loop-frame-preserved g c = let e = g.G.Successors.edges c.args.graph.now in let n = g.G.Successors.is_node c.args.graph.now in (
  (later_step e n c.args.frames.now c.loop-frame.frames c.step.new.frames c.in_ok-found.found (sym c.is_some.ensures ∙ c.if-is_some.false) c.loop-frame.invariant.0 c.in_ok-found.ensures.ok).0,
  grown_on c.args.frames.now c.loop-frame.frames c.step.new.frames c.loop-frame.invariant.1 c.step.ensures.grown,
)

pub returns-then-is_some-clause-grown : goal.returns-then-is_some-clause-grown
returns-then-is_some-clause-grown g c = grown_on c.args.frames.now c.loop-frame.frames c.step.new.frames c.loop-frame.invariant.1 c.step.ensures.grown

pub returns-in_err-found-clause-grown : goal.returns-in_err-found-clause-grown
returns-in_err-found-clause-grown g c = grown_on c.args.frames.now c.loop-frame.frames c.step.new.frames c.loop-frame.invariant.1 c.step.ensures.grown
