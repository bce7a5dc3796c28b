use Rattle.ppc_file.proofs.Common.{sym, added_as, added_twice}
use Rattle.ppc_file.proofs.add_parts.add_node.Goals as goal

pub returns : goal.returns
returns g c =
    added_as (sym c.told-first.ensures)
    (added_twice c.add_number.ensures c.add_number-2.ensures)
