use Rattle.pace_core.proofs.Lemmas.{sym, ap, ◌∙◌, length, TemplateValue, SimValue, made_keeps}
use Rattle.pace_core.proofs.pacer.Pacer.make.Goals as goal

pub invariant_of-result : goal.invariant_of-result
invariant_of-result c =
    let made = c.in_ok-specialiser.ensures in
    let template = ap (λ (s : SimValue). s.template) c.in_ok-sim.ensures in
    made_keeps c.in_ok-specialiser.specialiser c.in_ok-specialiser.backlog c.in_ok-sim.sim c.args.rate c.table_count-luts.result c.template.inside.depth c.args.pack made.pack made.params made.config c.at_inits.ensures.one made.device
    (c.requires.bits ∙ ap (λ (t : TemplateValue). t.bits) (sym template)) c.requires.rate
    (c.table_count-luts.ensures ∙ ap (λ (t : TemplateValue). length t.luts) (sym template))
    (ap (λ (t : TemplateValue). t.depth) (c.template.view_is ∙ sym template))
