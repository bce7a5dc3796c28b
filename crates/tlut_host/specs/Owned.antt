-- What a pointer that C keeps owns: the box behind it, if there is one.
use Rattle.std.specs.Prelude.{Option, Some, None}
use base.Fml.{Fml, ftrue}
use denote.RattleType.{RattleType}
use denote.RawPtr.{Ptr}
use Rattle.std_heap.specs.declared.Global.{Global}
use Rattle.std_heap.specs.contracts.GlobalAllocator.TheImpl.{ghosts}
use Rattle.std_alloc.specs.Box.Ownership.{box_owns}
use Rattle.tlut_host.specs.declared.host.NamedSpecialiser.{NamedSpecialiser}
use Rattle.tlut_host.specs.contracts.host.NamedSpecialiser.{the_row}
use Rattle.tlut_host.specs.declared.paced.PacedHost.{PacedHost}
use Rattle.tlut_host.specs.contracts.paced.PacedHost.{the_row as the_paced_row}

-- the handle to the heap, which has no bytes
abbrev pub heap : Global
heap = record { memory = record { seal = tt } }

-- of a value of this type
abbrev pub owns_boxed : (R : RattleType) → Ptr → Option R.Denot → Fml
owns_boxed R p (Some x) = box_owns (ghosts.dealloc_token heap) R p x
owns_boxed R p None = ftrue

-- of a host
abbrev pub held_by : Ptr → Option NamedSpecialiser → Fml
held_by = owns_boxed the_row

-- of a host at a limited rate
abbrev pub held_by_paced : Ptr → Option PacedHost → Fml
held_by_paced = owns_boxed the_paced_row
