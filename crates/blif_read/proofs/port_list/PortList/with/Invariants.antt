use Rattle.blif_read.proofs.Common.{◌≡◌, ◌++◌, into_iter_items, ports_fault}
use Rattle.blif_read.proofs.port_list.PortList.with.Given as goal

abbrev pub invariant-loop-name : goal.invariant-loop-name
invariant-loop-name l =
    (goal.iterator-loop-name).can_next l.name-iterator
    × (goal.iterator-loop-name).is_finite l.name-iterator
    × (l.index ≡ l.done.items)
    × (ports_fault l.number l.done.items (into_iter_items l.name-iterator) ≡ ports_fault l.number l.fn.self l.fn.names.items)
    × (l.done.items ++ into_iter_items l.name-iterator ≡ l.fn.self ++ l.fn.names.items)
