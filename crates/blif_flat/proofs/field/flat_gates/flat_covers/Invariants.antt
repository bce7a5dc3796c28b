use Rattle.blif_flat.proofs.Common.{◌≡◌, ◌++◌, map, drop, flat_cover}
use Rattle.blif_flat.proofs.field.flat_gates.flat_covers.Given as goal

abbrev pub invariant-loop-gate : goal.invariant-loop-gate
invariant-loop-gate l = l.flat.items ++ map (flat_cover l.from.library.now l.from.instances.now l.from.nets.now l.from.numbers.now) (drop l.gate-index l.from.covers.now) ≡ map (flat_cover l.from.library.now l.from.instances.now l.from.nets.now l.from.numbers.now) l.from.covers.now
