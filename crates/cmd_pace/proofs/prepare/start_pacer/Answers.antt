use Rattle.cmd_pace.proofs.Common.{ap, ◌∙◌, source_starts}
use Rattle.lut_sim.specs.Sim.{SimValue}
use Rattle.cmd_pace.proofs.prepare.start_pacer.Goals as goal

pub returns : goal.returns
returns c =
    let made = c.in_ok-pacer.ensures in (
      source_starts c.args.source.now c.args.tables _ _ _ c.in_ok-pacer.pacer.sim c.requires.read c.requires.tables c.make.ensures.one made.pack made.params made.config
          (ap (λ (s : SimValue). s.template) made.sim) (ap (λ (s : SimValue). s.shape) made.sim)
          (ap (λ (s : SimValue). s.states) made.sim ∙ c.deref.ensures.value ∙ c.in_ok-states.ensures),
      made.rate,
    )
