-- What the fault line reports for each refusal of a script.
use Rattle.std.specs.Prelude.{Option, Some, None, codes}
use Rattle.tl_fault.specs.RefusalValue.{RefusalValue, refusal}
use Rattle.tl_fault.specs.declared.refusal.Details.TheVariants as details
use Rattle.tl_text.specs.Refusals.{refusal_of as text_refusal}
use Rattle.tl_text.specs.declared.text_err.TextErr.TheVariants as text_err
use Rattle.run_text.specs.declared.script_err.ScriptErr.{ScriptErr}
use Rattle.run_text.specs.declared.script_err.ScriptErr.TheVariants.{BadByte, TrailingSlash, Malformed, NotHere, Width, NotParameter, RepeatedInSet, Address, Events, Memory}

abbrev pub refusal_of : ScriptErr → Option RefusalValue
refusal_of (BadByte line) = text_refusal (text_err.BadByte line)
refusal_of (TrailingSlash line) = text_refusal (text_err.TrailingSlash line)
refusal_of (Events line) = Some (refusal (codes "L7") (codes "Events") (details.Line line))
refusal_of (Malformed line) = Some (refusal (codes "S1") (codes "Malformed") (details.Line line))
refusal_of (NotHere line) = Some (refusal (codes "S6") (codes "NotHere") (details.Line line))
refusal_of (Width line width) = Some (refusal (codes "S2") (codes "Width") (details.Width line width))
refusal_of (NotParameter line name) = Some (refusal (codes "S3") (codes "NotParameter") (details.Named line name))
refusal_of (RepeatedInSet line name) = Some (refusal (codes "S4") (codes "RepeatedInSet") (details.Named line name))
refusal_of (Address line bits) = Some (refusal (codes "S5") (codes "Address") (details.Bits line bits))
refusal_of Memory = None
