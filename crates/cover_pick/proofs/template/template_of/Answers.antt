use Rattle.cover_pick.proofs.Lemmas.{◌∙◌, ap, subst, sym, RootsValue, roots_of, label_at, target, IsMade, template_is, timely_is}
use Rattle.cover_pick.proofs.template.template_of.Goals as goal

pub returns-clause-template : goal.returns-clause-template
returns-clause-template c supply made =
    let seen = subst (IsMade supply c.args.graph.now (label_at c.args.labels.now) (roots_of c.args.roots.now)) (sym c.made.view_is) made in
    record {
      template = template_is supply c.args.graph.now (label_at c.args.labels.now) c.args.roots.now _ c.in_ok-outputs.outputs.items c.in_ok-next.next.items c.target-depth.result c.requires.roots seen
          (c.in_ok-outputs.ensures.items ∙ (c.deref.ensures.value ∙ ap (λ (r : RootsValue). r.outputs) c.roots.view_is))
          (c.in_ok-next.ensures.items ∙ (c.deref-2.ensures.value ∙ ap (λ (r : RootsValue). r.next) c.roots.view_is))
          (c.target-depth.ensures ∙ ap (target c.args.graph.now (label_at c.args.labels.now)) c.requires.all);
      timely = timely_is supply c.args.graph.now (label_at c.args.labels.now) (roots_of c.args.roots.now) _ c.requires.roots seen;
    }
