use Rattle.depth_first.proofs.Lemmas.{VisitedAll, seen, went_back}
use Rattle.depth_first.proofs.run.visit_each.Goals as goal

pub returns : goal.returns
returns g c =
    let w = c.args.frames.now in
    let back = went_back w c.go_all-found.new.frames c.requires.ready.marks c.requires.ready.empty c.go_all-found.ensures.kept c.go_all-found.ensures.grown
    c.begun_count-begun.result c.done_count-order.result c.begun_count-begun.ensures c.done_count-order.ensures c.or_take_back.new.frames
    c.or_take_back.result c.go_all-found.result c.or_take_back.ensures.found c.or_take_back.ensures.ok c.or_take_back.ensures.err (λ v found. VisitedAll (g.G.Successors.edges c.args.graph.now) (seen w) (seen v) c.args.starts.now found) c.go_all-found.ensures.ok in
    record { ok = back.0; err = back.1.0; kept = back.1.1 }
