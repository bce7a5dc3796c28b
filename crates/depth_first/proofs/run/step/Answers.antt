use Rattle.depth_first.proofs.Lemmas.{None, length, sym, ◌∙◌, subst, FramesValue, AreKept, HasGrown, path_of, advanced, IsEdgeWithin, Followed, Stepped, grown_none, grown_on, grown_finished, grown_advanced, grown_followed}
use Rattle.depth_first.proofs.FollowLemmas.{top_below, edge_within, left_step, left_kept, followed_step, followed_kept}
use Rattle.depth_first.proofs.run.step.Goals as goal

pub finish-requires : goal.finish-requires
finish-requires g c = let e = g.G.Successors.edges c.args.graph.now in let n = g.G.Successors.is_node c.args.graph.now in
    top_below e n c.args.frames.now c.args.frame c.requires.nodes c.requires.going c.requires.top

pub follow-requires : goal.follow-requires
follow-requires g c = let e = g.G.Successors.edges c.args.graph.now in let n = g.G.Successors.is_node c.args.graph.now in
    subst (λ (v : FramesValue). IsEdgeWithin c.in-Some.edge (length v.marks)) (sym c.advance.ensures)
    (edge_within e n c.args.frames.now c.args.frame c.requires.nodes c.requires.going c.requires.top c.in-Some.edge (sym c.successor.ensures.edge ∙ c.in-Some.is))

pub returns-in_ok-finish-in-None-clause-ok : goal.returns-in_ok-finish-in-None-clause-ok
returns-in_ok-finish-in-None-clause-ok g c = let e = g.G.Successors.edges c.args.graph.now in let n = g.G.Successors.is_node c.args.graph.now in
    subst (λ v. Stepped e n c.args.frames.now v None) (sym c.in_ok-finish-in-None.ensures.ok)
    (left_step e n c.args.frames.now c.args.frame c.requires.nodes c.requires.going c.requires.top (sym c.successor.ensures.edge ∙ c.in-None.is))

pub returns-in_ok-finish-in-None-clause-kept : goal.returns-in_ok-finish-in-None-clause-kept
returns-in_ok-finish-in-None-clause-kept g c = let e = g.G.Successors.edges c.args.graph.now in let n = g.G.Successors.is_node c.args.graph.now in
    subst (AreKept c.args.frames.now) (sym c.in_ok-finish-in-None.ensures.ok)
    (left_kept e n c.args.frames.now c.args.frame c.requires.nodes c.requires.going c.requires.top)

pub returns-in_ok-found-in-Some-clause-ok : goal.returns-in_ok-found-in-Some-clause-ok
returns-in_ok-found-in-Some-clause-ok g c = let e = g.G.Successors.edges c.args.graph.now in let n = g.G.Successors.is_node c.args.graph.now in
    followed_step e n c.args.frames.now c.args.frame c.requires.nodes c.requires.going c.requires.top c.in-Some.edge (sym c.successor.ensures.edge ∙ c.in-Some.is)
    c.follow.new.frames c.in_ok-found-in-Some.found (subst (λ x. Followed x c.in-Some.edge c.follow.new.frames c.in_ok-found-in-Some.found) c.advance.ensures c.in_ok-found-in-Some.ensures.ok)

pub returns-in_ok-found-in-Some-clause-kept : goal.returns-in_ok-found-in-Some-clause-kept
returns-in_ok-found-in-Some-clause-kept g c = let e = g.G.Successors.edges c.args.graph.now in let n = g.G.Successors.is_node c.args.graph.now in
    followed_kept e n c.args.frames.now c.args.frame c.requires.nodes c.requires.going c.requires.top c.in-Some.edge
    c.follow.new.frames c.in_ok-found-in-Some.found (subst (λ x. Followed x c.in-Some.edge c.follow.new.frames c.in_ok-found-in-Some.found) c.advance.ensures c.in_ok-found-in-Some.ensures.ok)

pub returns-in_ok-finish-in-None-clause-grown : goal.returns-in_ok-finish-in-None-clause-grown
returns-in_ok-finish-in-None-clause-grown g c =
    subst (HasGrown c.args.frames.now) (sym c.in_ok-finish-in-None.ensures.ok) (grown_finished c.args.frames.now c.args.frame.node)

pub returns-in_err-finish-in-None-clause-grown : goal.returns-in_err-finish-in-None-clause-grown
returns-in_err-finish-in-None-clause-grown g c =
    subst (HasGrown c.args.frames.now) (sym c.in_err-finish-in-None.ensures.err) (grown_none c.args.frames.now)

pub returns-in_ok-found-in-Some-clause-grown : goal.returns-in_ok-found-in-Some-clause-grown
returns-in_ok-found-in-Some-clause-grown g c = let w = c.args.frames.now in let f = c.args.frame in
    grown_on w (advanced w f) c.follow.new.frames (grown_advanced w f)
    (grown_followed (advanced w f) (path_of w.stack) c.requires.going.marks c.in-Some.edge c.follow.new.frames c.in_ok-found-in-Some.found
    (subst (λ x. Followed x c.in-Some.edge c.follow.new.frames c.in_ok-found-in-Some.found) c.advance.ensures c.in_ok-found-in-Some.ensures.ok))

pub returns-in_err-found-in-Some-clause-grown : goal.returns-in_err-found-in-Some-clause-grown
returns-in_err-found-in-Some-clause-grown g c =
    subst (HasGrown c.args.frames.now) (sym (c.in_err-found-in-Some.ensures.err ∙ c.advance.ensures)) (grown_advanced c.args.frames.now c.args.frame)
