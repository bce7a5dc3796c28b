use Rattle.bounded_cuts.proofs.Lemmas.{◌≤◌, ◌<◌, [], refl, arith, first_and, IfOk-weaker, made_pushed, room_for, source_flow}
use Rattle.bounded_cuts.proofs.making.next_made.Goals as goal

pub pushed-requires : goal.pushed-requires
pushed-requires c = room_for c.args.wanted.now c.args.n c.args.made.rows c.args.made.worths.items c.requires.can c.requires.made [] c.requires.inside (λ _. refl) (omega arith)

pub returns-then-n-sources : goal.returns-then-n-sources
returns-then-n-sources c =
    let below : c.args.n < first_and c.args.wanted.now.graph.now = omega (arith, c.if-n-sources.true, c.sources.ensures.count) in
    IfOk-weaker c.pushed.result _ _ (λ more is.
    made_pushed c.args.wanted.now c.args.n c.args.made.rows c.args.made.worths.items c.requires.can c.requires.made [] 0 0 c.worth.result c.worth.ensures
    (source_flow c.args.n (first_and c.args.wanted.now.graph.now) _ below) (source_flow c.args.n (first_and c.args.wanted.now.graph.now) _ below)
    (λ _. refl) (λ and. absurd (let a : first_and c.args.wanted.now.graph.now ≤ c.args.n = and.0 in omega arith))
    more.rows more.worths.items is) c.pushed.ensures
