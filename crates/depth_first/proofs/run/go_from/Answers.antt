use Rattle.depth_first.proofs.Lemmas.{Some, sym, ap, ◌∙◌, subst, HasGrown, path_of, IsGoing, Ran, start_going, visited_done, visited_ran, grown_none, grown_entered, grown_on}
use Rattle.depth_first.proofs.run.go_from.Goals as goal

pub returns-in_ok-found-in-New-clause-ok : goal.returns-in_ok-found-in-New-clause-ok
returns-in_ok-found-in-New-clause-ok g c = let e = g.G.Successors.edges c.args.graph.now in let n = g.G.Successors.is_node c.args.graph.now in
    visited_ran e n c.args.frames.now c.args.start c.requires.ready.marks c.requires.ready.settled c.requires.ready.empty (c.mark.ensures ∙ ap Some c.in-New.is) c.run.new.frames c.in_ok-found-in-New.found
    (subst (λ x. Ran e n x c.run.new.frames c.in_ok-found-in-New.found) c.in_ok-enter-in-New.ensures.ok c.in_ok-found-in-New.ensures.ok)

pub returns-in-Done-clause-ok : goal.returns-in-Done-clause-ok
returns-in-Done-clause-ok g c = let e = g.G.Successors.edges c.args.graph.now in let n = g.G.Successors.is_node c.args.graph.now in
    visited_done e n c.args.frames.now c.args.start c.requires.ready.marks c.requires.ready.settled c.requires.ready.empty (c.mark.ensures ∙ ap Some c.in-Done.is)

pub run-requires-clause-going : goal.run-requires-clause-going
run-requires-clause-going g c = let e = g.G.Successors.edges c.args.graph.now in let n = g.G.Successors.is_node c.args.graph.now in
    subst (IsGoing e n) (sym c.in_ok-enter-in-New.ensures.ok)
    (start_going e n c.args.frames.now c.args.start c.requires.ready.marks c.requires.ready.settled c.requires.ready.empty (c.mark.ensures ∙ ap Some c.in-New.is) c.requires.here)

pub returns-in_ok-found-in-New-clause-grown : goal.returns-in_ok-found-in-New-clause-grown
returns-in_ok-found-in-New-clause-grown g c = let w = c.args.frames.now in
    grown_on w c.enter.new.self c.run.new.frames
    (subst (HasGrown w) (sym c.in_ok-enter-in-New.ensures.ok) (grown_entered w (path_of w.stack) c.args.start c.requires.ready.marks (c.mark.ensures ∙ ap Some c.in-New.is))) c.run.ensures.grown

pub returns-in_err-found-in-New-clause-grown : goal.returns-in_err-found-in-New-clause-grown
returns-in_err-found-in-New-clause-grown g c = let w = c.args.frames.now in
    grown_on w c.enter.new.self c.run.new.frames
    (subst (HasGrown w) (sym c.in_ok-enter-in-New.ensures.ok) (grown_entered w (path_of w.stack) c.args.start c.requires.ready.marks (c.mark.ensures ∙ ap Some c.in-New.is))) c.run.ensures.grown

pub returns-in_err-enter-in-New-clause-grown : goal.returns-in_err-enter-in-New-clause-grown
returns-in_err-enter-in-New-clause-grown g c = subst (HasGrown c.args.frames.now) (sym c.in_err-enter-in-New.ensures.err) (grown_none c.args.frames.now)

pub returns-in-Done-clause-grown : goal.returns-in-Done-clause-grown
returns-in-Done-clause-grown g c = grown_none c.args.frames.now
