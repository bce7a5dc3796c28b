use Rattle.cover_pick.proofs.Common.{List, subst, sym, err_from_is_err_and, roots_of, label_at, Lut, IsLight, ArePicked}
use Rattle.cover_pick.proofs.template.template_for.Goals as goal

pub returns-in_err-made : goal.returns-in_err-made
returns-in_err-made c supply given =
    let refused = subst (ArePicked supply c.args.graph.now (label_at c.args.labels.now) (roots_of c.args.roots.now)) c.in_err-made.was given in
    let p = err_from_is_err_and c.from_residual.result c.from_residual.ensures.1 in
    rw (p.1, p.2) (record { template = tt; timely = tt; light = tt; work = refused.err })

pub returns : goal.returns
returns c supply given =
    let made = subst (ArePicked supply c.args.graph.now (label_at c.args.labels.now) (roots_of c.args.roots.now)) c.in_ok-made.was given in
    let is = c.in_ok-template.ensures.template supply made.ok in
    record {
      template = is.template;
      timely = is.timely;
      light = subst (λ (ts : List Lut). IsLight supply c.args.graph.now ts) (sym c.in_ok-template.ensures.luts) made.light;
      work = tt;
    }
