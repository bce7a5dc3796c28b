-- What each refusal of a netlist says.
use Rattle.std.specs.Prelude.{Option, Some, None, codes}
use Rattle.blif_read.specs.Words.{BlifErr, BadByte, TrailingSlash, NotCommand, Unsupported, OutsideModel, Arity, BadRow, MixedRows, BadLatch, LatchKind, DuplicateModel, DuplicatePort, BadConnection, NoModel, Memory}
use Rattle.tl_fault.specs.RefusalValue.{RefusalValue, refusal}
use Rattle.tl_fault.specs.declared.refusal.Details.TheVariants.{Nothing, Line, Named}
use Rattle.tl_text.specs.Refusals.{refusal_of as text_refusal}
use Rattle.tl_text.specs.declared.text_err.TextErr.TheVariants as text_err

abbrev pub refusal_of : BlifErr → Option RefusalValue
refusal_of (BadByte line) = text_refusal (text_err.BadByte line)
refusal_of (TrailingSlash line) = text_refusal (text_err.TrailingSlash line)
refusal_of (NotCommand line) = Some (refusal (codes "B1") (codes "NotCommand") (Line line))
refusal_of (Unsupported line) = Some (refusal (codes "B2") (codes "Unsupported") (Line line))
refusal_of (OutsideModel line) = Some (refusal (codes "B3") (codes "OutsideModel") (Line line))
refusal_of (Arity line) = Some (refusal (codes "B4") (codes "Arity") (Line line))
refusal_of (BadRow line) = Some (refusal (codes "B5") (codes "BadRow") (Line line))
refusal_of (MixedRows line) = Some (refusal (codes "B6") (codes "MixedRows") (Line line))
refusal_of (BadLatch line) = Some (refusal (codes "B7") (codes "BadLatch") (Line line))
refusal_of (LatchKind line) = Some (refusal (codes "B8") (codes "LatchKind") (Line line))
refusal_of (DuplicateModel line name) = Some (refusal (codes "B9") (codes "DuplicateModel") (Named line name))
refusal_of (DuplicatePort line name) = Some (refusal (codes "B10") (codes "DuplicatePort") (Named line name))
refusal_of (BadConnection line) = Some (refusal (codes "B11") (codes "BadConnection") (Line line))
refusal_of NoModel = Some (refusal (codes "B12") (codes "NoModel") Nothing)
refusal_of Memory = None
