use Rattle.depth_first.proofs.Lemmas.{Visited, seen, went_back}
use Rattle.depth_first.proofs.run.visit_from.Goals as goal

pub returns : goal.returns
returns g c =
    let w = c.args.frames.now in
    let back = went_back w c.go_from-found.new.frames c.requires.ready.marks c.requires.ready.empty c.go_from-found.ensures.kept c.go_from-found.ensures.grown
    c.begun_count-begun.result c.done_count-order.result c.begun_count-begun.ensures c.done_count-order.ensures c.or_take_back.new.frames
    c.or_take_back.result c.go_from-found.result c.or_take_back.ensures.found c.or_take_back.ensures.ok c.or_take_back.ensures.err (λ v found. Visited (g.G.Successors.edges c.args.graph.now) (seen w) (seen v) c.args.start found) c.go_from-found.ensures.ok in
    record { ok = back.0; err = back.1.0; kept = back.1.1 }
