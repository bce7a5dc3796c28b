use Rattle.cover_pick.proofs.Lemmas.{◌∙◌, ap, err_from_is_err_and, lits_of, Made, tables_of, IsFree, leaf_inside, free_or_not, bits_past, countable, leaves_can, count_free, within_free, past_free}
use Rattle.cover_pick.proofs.light.sharing_tables.Goals as goal

pub make_tables-requires-clause-leaves : goal.make_tables-requires-clause-leaves
make_tables-requires-clause-leaves c = λ d m i j. leaf_inside c.args.graph.now m (c.requires.leaves d m i j)

pub returns-in_err-made-clause-err : goal.returns-in_err-made-clause-err
returns-in_err-made-clause-err c =
    let p = err_from_is_err_and c.from_residual.result c.from_residual.ensures.1 in
    rw (p.1, p.2) (bits_past c.args.graph.now (lits_of c.args.roots.now) c.args.cuts.now c.requires.leaves c.requires.roots (IsFree c.args.graph.now (tables_of c.args.graph.now (lits_of c.args.roots.now) c.args.cuts.now).luts) (free_or_not c.args.graph.now (tables_of c.args.graph.now (lits_of c.args.roots.now) c.args.cuts.now).luts c.len-count.ensures.normal) c.len-count.ensures.normal c.in_err-made.field-0.0 c.in_err-made.ensures.err)

pub free_nodes-requires : goal.free_nodes-requires
free_nodes-requires c = leaves_can c.args.graph.now (lits_of c.args.roots.now) c.args.cuts.now c.requires.leaves c.requires.roots c.deref.result.now (c.deref.ensures.value ∙ ap (λ (m : Made). m.luts) (c.made.view_is ∙ c.in_ok-made.ensures.ok))

pub limit_work-requires-clause-luts : goal.limit_work-requires-clause-luts
limit_work-requires-clause-luts c = countable c.args.graph.now (lits_of c.args.roots.now) c.args.cuts.now c.requires.leaves c.requires.roots c.deref-3.result.now (c.deref-3.ensures.value ∙ ap (λ (m : Made). m.luts) (c.made.view_is ∙ c.in_ok-made.ensures.ok))

pub limit_work-requires-clause-once : goal.limit_work-requires-clause-once
limit_work-requires-clause-once c =
    count_free c.args.graph.now (tables_of c.args.graph.now (lits_of c.args.roots.now) c.args.cuts.now).luts c.deref.result.now c.deref-3.result.now c.in_ok-free.free.items c.deref-2.result.now (c.deref.ensures.value ∙ ap (λ (m : Made). m.luts) (c.made.view_is ∙ c.in_ok-made.ensures.ok)) (c.deref-3.ensures.value ∙ ap (λ (m : Made). m.luts) (c.made.view_is ∙ c.in_ok-made.ensures.ok)) c.deref-2.ensures.value
    c.in_ok-free.ensures.only c.in_ok-free.ensures.all c.len-count.ensures.normal (leaves_can c.args.graph.now (lits_of c.args.roots.now) c.args.cuts.now c.requires.leaves c.requires.roots c.deref.result.now (c.deref.ensures.value ∙ ap (λ (m : Made). m.luts) (c.made.view_is ∙ c.in_ok-made.ensures.ok)))

pub returns-in_err-limit_work-clause-err : goal.returns-in_err-limit_work-clause-err
returns-in_err-limit_work-clause-err c =
    let p = err_from_is_err_and c.from_residual-in_err-limit_work.result c.from_residual-in_err-limit_work.ensures.1 in
    rw (p.1, p.2) (past_free c.args.graph.now (tables_of c.args.graph.now (lits_of c.args.roots.now) c.args.cuts.now).luts c.deref.result.now c.deref-3.result.now c.in_ok-free.free.items c.deref-2.result.now (c.deref.ensures.value ∙ ap (λ (m : Made). m.luts) (c.made.view_is ∙ c.in_ok-made.ensures.ok)) (c.deref-3.ensures.value ∙ ap (λ (m : Made). m.luts) (c.made.view_is ∙ c.in_ok-made.ensures.ok)) c.deref-2.ensures.value
    c.in_ok-free.ensures.only c.in_ok-free.ensures.all c.in_err-limit_work.field-0.0 c.in_err-limit_work.ensures.past)

pub returns-clause-light : goal.returns-clause-light
returns-clause-light c =
    within_free c.args.graph.now c.in_ok-made.made.luts c.deref.result.now c.deref-3.result.now c.in_ok-free.free.items c.deref-2.result.now (c.deref.ensures.value ∙ ap (λ (m : Made). m.luts) c.made.view_is) (c.deref-3.ensures.value ∙ ap (λ (m : Made). m.luts) c.made.view_is) c.deref-2.ensures.value
    c.in_ok-free.ensures.only c.in_ok-free.ensures.all c.in_ok-limit_work.ensures.within
