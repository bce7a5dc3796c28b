use Rattle.depth_first.proofs.Lemmas.{◌+◌, drop, get_or, sym, ap, ◌∙◌, drop_past, path_of, seen, can_go_on, kept_same, kept_more, grown_none, grown_on}
use Rattle.depth_first.proofs.AllLemmas.{drop_next, left_none, left_step, left_found, left_end}
use Rattle.depth_first.proofs.run.go_all.Goals as goal

pub loop-start-init : goal.loop-start-init
loop-start-init g c = let w = c.args.frames.now in
    (left_none (g.G.Successors.edges c.args.graph.now) (seen w) c.args.starts.now c.requires.ready.settled (ap path_of c.requires.ready.empty), (kept_same w c.requires.ready.marks, grown_none w))

pub loop-start-preserved : goal.loop-start-preserved
loop-start-preserved g c = let w = c.args.frames.now in let v = c.loop-start.frames in let u = c.go_from.new.frames in let xs = c.args.starts.now in let i = c.loop-start.start-index in (
  left_step (g.G.Successors.edges c.args.graph.now) (seen w) xs (seen v) (seen u) (drop i xs) (drop (i + 1) xs) (get_or xs i 0) c.in_ok-found.found
      (sym c.is_some.ensures ∙ c.if-is_some.false) (drop_next xs i 0 c.loop-start-test.true) c.go_from.ensures.kept.long c.loop-start.invariant.0 c.in_ok-found.ensures.ok,
  (kept_more w v u c.loop-start.invariant.1.0.long c.go_from.ensures.kept, grown_on w v u c.loop-start.invariant.1.1 c.go_from.ensures.grown),
)

pub go_from-requires-clause-ready : goal.go_from-requires-clause-ready
go_from-requires-clause-ready g c = let l = c.loop-start in
    can_go_on (g.G.Successors.edges c.args.graph.now) (g.G.Successors.is_node c.args.graph.now) c.args.frames.now l.frames c.requires.ready l.invariant.1.0 l.invariant.0.settled l.invariant.0.path

pub returns-then-is_some-clause-ok : goal.returns-then-is_some-clause-ok
returns-then-is_some-clause-ok g c = let xs = c.args.starts.now in let i = c.loop-start.start-index in
    left_found (g.G.Successors.edges c.args.graph.now) (seen c.args.frames.now) xs (seen c.loop-start.frames) (seen c.go_from.new.frames) (drop i xs) (drop (i + 1) xs) (get_or xs i 0) c.in_ok-found.found
    (sym c.is_some.ensures ∙ c.if-is_some.true) (drop_next xs i 0 c.loop-start-test.true) c.loop-start.invariant.0 c.in_ok-found.ensures.ok

pub returns-then-is_some-clause-grown : goal.returns-then-is_some-clause-grown
returns-then-is_some-clause-grown g c = grown_on c.args.frames.now c.loop-start.frames c.go_from.new.frames c.loop-start.invariant.1.1 c.go_from.ensures.grown

pub returns-in_err-found-clause-grown : goal.returns-in_err-found-clause-grown
returns-in_err-found-clause-grown g c = grown_on c.args.frames.now c.loop-start.frames c.go_from.new.frames c.loop-start.invariant.1.1 c.go_from.ensures.grown

pub returns-clause-ok : goal.returns-clause-ok
returns-clause-ok g c = let xs = c.args.starts.now in let i = c.loop-start.start-index in
    left_end (g.G.Successors.edges c.args.graph.now) (seen c.args.frames.now) xs (seen c.loop-start.frames) (drop i xs) (drop_past xs i c.loop-start-test.false) c.loop-start.invariant.0
