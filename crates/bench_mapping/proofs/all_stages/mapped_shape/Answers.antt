use Rattle.std.proofs.Common.{◌≡◌, ◌∙◌, length, subst, sym, ap}
use Rattle.list_laws.specs.Members.{In}
use Rattle.list_laws.proofs.Members.{In-left, In-right}
use Rattle.aig_core.specs.Roots.{lits_of, roots_of}
use Rattle.cover_pick.specs.Template.{TemplateValue}
use Rattle.bench_mapping.proofs.all_stages.mapped_shape.Goals as goal

pub returns-clause-playable : goal.returns-clause-playable
returns-clause-playable c s e =
    let roots = c.args.roots.now in
    let len : c.len-2.result ≡ length c.args.template.now.next = c.len-2.ensures ∙ c.template.inside.next.ok.0 ∙ ap (λ (t : TemplateValue). length t.next) c.template.view_is in
    c.shape_of.ensures.playable s c.args.k (roots_of roots) c.args.template.now e c.requires.mapping
    (λ l i. In-left (lits_of roots.outputs) (lits_of roots.next) l (subst (λ ls. In (lits_of ls) l) c.requires.outputs i))
    (λ l i. In-right (lits_of roots.outputs) (lits_of roots.next) l (subst (λ ls. In (lits_of ls) l) c.requires.next i))
    (sym len ∙ c.if-len-inits.false ∙ sym c.in_ok-latches.ensures)

pub returns-clause-latches : goal.returns-clause-latches
returns-clause-latches c s e = sym (c.shape_of.ensures.latches s e ∙ c.in_ok-latches.ensures)
