use Rattle.flow_label.proofs.Lemmas.{◌≡◌, ◌/◌, ◌∙◌, arith, sym, subst, get_or, IsAnd, IsNode, In-get_or, label_at, HasRead, get_or_read, read_both, read_size}
use Rattle.flow_label.proofs.walk.read_at.Goals as goal

pub pair_at-pair-requires : goal.pair_at-pair-requires
pair_at-pair-requires c =
    let e : c.index-v.result.now ≡ get_or c.args.walk.now.uppers.items c.args.place 0 = get_or_read c.args.walk.now.uppers.items c.args.place c.index-v.result.now c.requires.inside c.index-v.ensures 0 in
    subst (λ v. IsAnd c.args.graph.now v) (sym e) (c.requires.walked.uppers_are.only _ (In-get_or c.args.walk.now.uppers.items c.args.place 0 c.requires.inside)).1

pub read-requires-clause-inside : goal.read-requires-clause-inside
read-requires-clause-inside c =
    let e : c.index-v.result.now ≡ get_or c.args.walk.now.uppers.items c.args.place 0 = get_or_read c.args.walk.now.uppers.items c.args.place c.index-v.result.now c.requires.inside c.index-v.ensures 0 in
    let and : IsAnd c.args.graph.now c.index-v.result.now = subst (λ v. IsAnd c.args.graph.now v) (sym e) (c.requires.walked.uppers_are.only _ (In-get_or c.args.walk.now.uppers.items c.args.place 0 c.requires.inside)).1 in
    omega (arith, and.1, c.pair_at-pair.ensures.normal.below, c.pair_at-pair.ensures.normal.ordered)

pub read-requires-2-clause-inside : goal.read-requires-2-clause-inside
read-requires-2-clause-inside c =
    let e : c.index-v.result.now ≡ get_or c.args.walk.now.uppers.items c.args.place 0 = get_or_read c.args.walk.now.uppers.items c.args.place c.index-v.result.now c.requires.inside c.index-v.ensures 0 in
    let and : IsAnd c.args.graph.now c.index-v.result.now = subst (λ v. IsAnd c.args.graph.now v) (sym e) (c.requires.walked.uppers_are.only _ (In-get_or c.args.walk.now.uppers.items c.args.place 0 c.requires.inside)).1 in
    omega (arith, and.1, c.pair_at-pair.ensures.normal.below)

pub returns-clause-room : goal.returns-clause-room
returns-clause-room c =
    read_size c.args.graph.now c.args.labels.now c.args.n c.args.height c.len-count.ensures.normal c.requires.node c.requires.high c.requires.known _ _ _ _ _ _ _ _ c.in_ok-read-2.ensures
    ∙ (read_size c.args.graph.now c.args.labels.now c.args.n c.args.height c.len-count.ensures.normal c.requires.node c.requires.high c.requires.known _ _ _ _ _ _ _ _ c.in_ok-read.ensures ∙ c.requires.room)

pub returns-clause-walked : goal.returns-clause-walked
returns-clause-walked c =
    let e : c.index-v.result.now ≡ get_or c.args.walk.now.uppers.items c.args.place 0 = get_or_read c.args.walk.now.uppers.items c.args.place c.index-v.result.now c.requires.inside c.index-v.ensures 0 in
    let and : IsAnd c.args.graph.now c.index-v.result.now = subst (λ v. IsAnd c.args.graph.now v) (sym e) (c.requires.walked.uppers_are.only _ (In-get_or c.args.walk.now.uppers.items c.args.place 0 c.requires.inside)).1 in
    read_both c.args.graph.now c.args.labels.now c.args.n c.args.height c.len-count.ensures.normal c.requires.node c.requires.high c.requires.known c.pair_at-pair.result c.args.place
    c.args.walk.now.readers c.args.walk.now.uppers.items c.args.walk.now.ends.items c.read.new.walk.readers c.read.new.walk.uppers.items c.read.new.walk.ends.items c.read-2.new.walk.readers c.read-2.new.walk.uppers.items c.read-2.new.walk.ends.items
    c.requires.room c.requires.walked c.requires.inside
    (subst (λ v. IsNode c.args.graph.now c.pair_at-pair.result v) e (record { above = and.0; is = c.pair_at-pair.ensures.pair }))
    (subst (λ v. HasRead c.args.graph.now (label_at c.args.labels.now) c.args.height (c.pair_at-pair.result.x.0 / 2) v c.args.walk.now.readers c.args.walk.now.uppers.items c.args.walk.now.ends.items c.read.new.walk.readers c.read.new.walk.uppers.items c.read.new.walk.ends.items) e c.in_ok-read.ensures)
    (subst (λ v. HasRead c.args.graph.now (label_at c.args.labels.now) c.args.height (c.pair_at-pair.result.y.0 / 2) v c.read.new.walk.readers c.read.new.walk.uppers.items c.read.new.walk.ends.items c.read-2.new.walk.readers c.read-2.new.walk.uppers.items c.read-2.new.walk.ends.items) e c.in_ok-read-2.ensures)
