-- What each refusal of a library says.
use Rattle.std.specs.Prelude.{Option, Some, None, codes}
use Rattle.blif_flat.specs.Circuits.{FlatErr, UnknownModel, RecursiveModel, UnknownFormal, Unconnected, TooLarge, DoublyDriven, Undriven, SecondClock, ClockNotInput, ClockAsData, Loop, Memory}
use Rattle.tl_fault.specs.RefusalValue.{RefusalValue, refusal}
use Rattle.tl_fault.specs.declared.refusal.Details.TheVariants.{Nothing, Located, One, Two, Listed}

abbrev pub refusal_of : FlatErr → Option RefusalValue
refusal_of (UnknownModel model line name) = Some (refusal (codes "F1") (codes "UnknownModel") (Located model line name))
refusal_of (RecursiveModel chain) = Some (refusal (codes "F2") (codes "RecursiveModel") (Listed chain))
refusal_of (UnknownFormal model line name) = Some (refusal (codes "F3") (codes "UnknownFormal") (Located model line name))
refusal_of (Unconnected model line name) = Some (refusal (codes "F4") (codes "Unconnected") (Located model line name))
refusal_of TooLarge = Some (refusal (codes "L2") (codes "TooLarge") Nothing)
refusal_of (DoublyDriven model line name) = Some (refusal (codes "F5") (codes "DoublyDriven") (Located model line name))
refusal_of (Undriven model line name) = Some (refusal (codes "F6") (codes "Undriven") (Located model line name))
refusal_of (SecondClock first second) = Some (refusal (codes "F7") (codes "SecondClock") (Two first second))
refusal_of (ClockNotInput net) = Some (refusal (codes "F8") (codes "ClockNotInput") (One net))
refusal_of (ClockAsData net) = Some (refusal (codes "F9") (codes "ClockAsData") (One net))
refusal_of (Loop nets) = Some (refusal (codes "F10") (codes "Loop") (Listed nets))
refusal_of Memory = None
