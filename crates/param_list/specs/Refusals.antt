-- What the fault line reports for each refusal of a parameter list.
use Rattle.std.specs.Prelude.{Option, Some, None, codes}
use Rattle.tl_fault.specs.RefusalValue.{RefusalValue, refusal}
use Rattle.tl_fault.specs.declared.refusal.Details.TheVariants.{Line, Named}
use Rattle.tl_text.specs.Refusals.{refusal_of as text_refusal}
use Rattle.tl_text.specs.declared.text_err.TextErr.TheVariants as text_err
use Rattle.param_list.specs.declared.par_err.ParErr.{ParErr}
use Rattle.param_list.specs.declared.par_err.ParErr.TheVariants.{BadByte, TrailingSlash, Malformed, Parameters, NotInput, IsClock, Repeated, Memory}

abbrev pub refusal_of : ParErr → Option RefusalValue
refusal_of (BadByte line) = text_refusal (text_err.BadByte line)
refusal_of (TrailingSlash line) = text_refusal (text_err.TrailingSlash line)
refusal_of (Malformed line) = Some (refusal (codes "P1") (codes "Malformed") (Line line))
refusal_of (Parameters line) = Some (refusal (codes "L8") (codes "Parameters") (Line line))
refusal_of (NotInput line name) = Some (refusal (codes "P2") (codes "NotInput") (Named line name))
refusal_of (IsClock line name) = Some (refusal (codes "P3") (codes "IsClock") (Named line name))
refusal_of (Repeated line name) = Some (refusal (codes "P4") (codes "Repeated") (Named line name))
refusal_of Memory = None
