use Rattle.blif_flat.proofs.Lemmas.{sym, subst, IsNets, with_slot-nets}
use Rattle.blif_flat.proofs.circuit.nets.Nets.set.Goals as goal

pub returns-in-Some-clause-nets : goal.returns-in-Some-clause-nets
returns-in-Some-clause-nets c = subst IsNets (sym c.put.ensures) (with_slot-nets c.args.self.now c.in-Some.k c.args.net c.requires)
