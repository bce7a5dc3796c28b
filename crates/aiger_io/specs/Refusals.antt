-- What the fault line reports for each refusal of a text.
use Rattle.std.specs.Prelude.{Option, Some, None, codes}
use Rattle.tl_fault.specs.RefusalValue.{RefusalValue, refusal}
use Rattle.tl_fault.specs.declared.refusal.Details.TheVariants.{Line, Named}
use Rattle.aiger_io.specs.declared.aag_err.AagErr.{AagErr}
use Rattle.aiger_io.specs.declared.aag_err.AagErr.TheVariants.{Header, Malformed, Range, BadSymbol, Unsupported, Memory}

abbrev pub refusal_of : AagErr → Option RefusalValue
refusal_of Header = Some (refusal (codes "A1") (codes "Header") (Line 1))
refusal_of (Malformed line) = Some (refusal (codes "A2") (codes "Malformed") (Line line))
refusal_of (Range line) = Some (refusal (codes "A3") (codes "Range") (Line line))
refusal_of (BadSymbol line name) = Some (refusal (codes "A4") (codes "BadSymbol") (Named line name))
refusal_of Unsupported = Some (refusal (codes "A5") (codes "Unsupported") (Line 1))
refusal_of Memory = None
