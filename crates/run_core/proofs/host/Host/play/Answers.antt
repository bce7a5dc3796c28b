use Rattle.run_core.proofs.HostLemmas.{set_keeps}
use Rattle.run_core.proofs.host.Host.play.Goals as goal

pub invariant_of-self : goal.invariant_of-self
invariant_of-self g c = set_keeps c.self.inside.specialiser c.change.new.self _ c.self.invariant c.change.ensures.pack c.change.ensures.set
