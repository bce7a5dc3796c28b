use Rattle.lut_sim.proofs.Common.{◌∙◌, subst, ap, map, lits_of, TemplateValue, IsOnlyTableCycle, value_in}
use Rattle.lut_sim.specs.Sim.{SimValue}
use Rattle.lut_sim.proofs.FitLemmas.{cycle_only}
use Rattle.lut_sim.proofs.sim.Sim.cycle.Goals as goal

pub returns-clause-only : goal.returns-clause-only
returns-clause-only c =
    subst (λ (v : SimValue). IsOnlyTableCycle v.template v.shape c.args.config.now c.args.inputs.now v.states c.read_roots.new.self.outputs.items c.read_roots.new.self.states.items) c.self.view_is
    (cycle_only c.self.inside.board.template c.self.inside.board.shape c.args.config.now c.args.inputs.now c.self.inside.board.states.items
    c.read_roots.new.self.outputs.items c.read_roots.new.self.states.items (value_in c.play.new.self.values.items) c.self.invariant.playable c.play.ensures.fits
    (c.read_roots.ensures.outputs ∙ ap (λ (t : TemplateValue). map (value_in c.play.new.self.values.items) (lits_of t.outputs)) c.play.ensures.template)
    (c.read_roots.ensures.states ∙ ap (λ (t : TemplateValue). map (value_in c.play.new.self.values.items) (lits_of t.next)) c.play.ensures.template))
