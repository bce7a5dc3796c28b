-- What each refusal of a text says.
use Rattle.std.specs.Prelude.{Option, Some, None, codes}
use Rattle.tl_fault.specs.RefusalValue.{RefusalValue, refusal}
use Rattle.tl_fault.specs.declared.refusal.Details.TheVariants.{Line}
use Rattle.tl_text.specs.declared.text_err.TextErr.{TextErr}
use Rattle.tl_text.specs.declared.text_err.TextErr.TheVariants.{BadByte, TrailingSlash, Memory}

abbrev pub refusal_of : TextErr → Option RefusalValue
refusal_of (BadByte line) = Some (refusal (codes "T1") (codes "BadByte") (Line line))
refusal_of (TrailingSlash line) = Some (refusal (codes "T2") (codes "TrailingSlash") (Line line))
refusal_of Memory = None
