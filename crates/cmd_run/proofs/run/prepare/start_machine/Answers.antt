use Rattle.cmd_run.proofs.Common.{ap, ◌∙◌, SimValue, source_starts}
use Rattle.cmd_run.proofs.run.prepare.start_machine.Goals as goal

pub returns : goal.returns
returns c =
    let made = c.in_ok-machine.ensures in
    source_starts c.args.source.now c.args.tables _ _ _ c.in_ok-machine.machine.sim c.requires.read c.requires.tables c.make.ensures.one made.pack made.params made.config
    (ap (λ (s : SimValue). s.template) made.sim) (ap (λ (s : SimValue). s.shape) made.sim)
    (ap (λ (s : SimValue). s.states) made.sim ∙ c.deref.ensures.value ∙ c.in_ok-states.ensures)
