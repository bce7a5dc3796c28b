use Rattle.spec_core.proofs.KeepLemmas.{scrub_keeps, scrub_sets, scrub_rights}
use Rattle.spec_core.proofs.specialiser.Specialiser.scrub.Goals as goal

pub invariant_of-self : goal.invariant_of-self
invariant_of-self c = scrub_keeps c.self.inside.evaluation c.self.inside.device c.clear.new.self c.write_differing.new.self c.self.invariant c.clear.ensures c.write_differing.ensures.sent

pub returns-clause-scrub : goal.returns-clause-scrub
returns-clause-scrub c = rw (← c.self.view_is) (scrub_sets c.self.inside.evaluation c.self.inside.device c.clear.new.self c.write_differing.new.self c.self.invariant c.clear.ensures c.write_differing.ensures.sent)

pub returns-clause-right : goal.returns-clause-right
returns-clause-right c = rw (← c.self.view_is) (scrub_rights c.self.inside.evaluation c.self.inside.device c.clear.new.self c.write_differing.new.self c.self.invariant c.clear.ensures c.write_differing.ensures.sent)
