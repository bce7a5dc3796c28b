use Rattle.spec_core.proofs.KeepLemmas.{change_keeps, change_sets, change_stays}
use Rattle.spec_core.proofs.specialiser.Specialiser.change.Goals as goal

pub invariant_of-self : goal.invariant_of-self
invariant_of-self g c = change_keeps c.self.inside.evaluation c.change.new.self c.write_marked.new.evaluation c.self.inside.device c.clear.new.self c.write_marked.new.self c.args.assigns.now _ _
    c.self.invariant c.change.ensures.pack c.change.ensures.change c.change.ensures.addresses c.clear.ensures c.write_marked.ensures.sent c.write_marked.ensures.taken

pub returns-clause-set : goal.returns-clause-set
returns-clause-set g c = rw (← c.self.view_is) (change_sets c.self.inside.evaluation c.change.new.self c.write_marked.new.evaluation c.self.inside.device c.clear.new.self c.write_marked.new.self c.args.assigns.now _ _
    c.self.invariant c.change.ensures.pack c.change.ensures.change c.change.ensures.addresses c.clear.ensures c.write_marked.ensures.sent c.write_marked.ensures.taken)

pub returns-clause-steady : goal.returns-clause-steady
returns-clause-steady g c = rw (← c.self.view_is) (change_stays c.self.inside.evaluation c.change.new.self c.write_marked.new.evaluation c.self.inside.device c.clear.new.self c.write_marked.new.self c.args.assigns.now _ _
    c.self.invariant c.change.ensures.pack c.change.ensures.change c.change.ensures.addresses c.clear.ensures c.write_marked.ensures.sent c.write_marked.ensures.taken)
