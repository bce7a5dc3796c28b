use Rattle.blif_write.proofs.Lemmas.{ap, added_as, added_twice, Naming, own_is}
use Rattle.blif_write.proofs.names.Names.add_own.Goals as goal

pub returns : goal.returns
returns g c =
    added_as (own_is c.args.self.now c.self.inside.under c.args.letter c.args.number (ap (λ (n : Naming). n.under) c.self.view_is))
    (added_twice c.add_repeated.ensures
    (added_twice c.add_byte.ensures c.add_number.ensures))
