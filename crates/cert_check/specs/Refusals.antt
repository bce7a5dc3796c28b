-- What the fault line reports for each refusal of a certificate.
use Rattle.std.specs.Prelude.{Option, Some, None, codes}
use Rattle.tl_fault.specs.RefusalValue.{RefusalValue, refusal}
use Rattle.tl_fault.specs.declared.refusal.Details.TheVariants.{Nothing, Line, NodeIn}
use Rattle.tl_text.specs.Refusals.{refusal_of as text_refusal}
use Rattle.tl_text.specs.declared.text_err.TextErr.TheVariants as text_err
use Rattle.cert_check.specs.declared.cert_err.CertErr.{CertErr}
use Rattle.cert_check.specs.declared.cert_err.CertErr.TheVariants.{BadByte, TrailingSlash, Malformed, BadClaim, BadPath, PathCount, Shared, NotReached, Memory}

abbrev pub refusal_of : CertErr → Option RefusalValue
refusal_of (BadByte line) = text_refusal (text_err.BadByte line)
refusal_of (TrailingSlash line) = text_refusal (text_err.TrailingSlash line)
refusal_of (Malformed line) = Some (refusal (codes "C1") (codes "Malformed") (Line line))
refusal_of (BadClaim line) = Some (refusal (codes "C2") (codes "BadClaim") (Line line))
refusal_of (BadPath line) = Some (refusal (codes "C3") (codes "BadPath") (Line line))
refusal_of (PathCount line) = Some (refusal (codes "C4") (codes "PathCount") (Line line))
refusal_of (Shared line node) = Some (refusal (codes "C5") (codes "Shared") (NodeIn line node))
refusal_of NotReached = Some (refusal (codes "C6") (codes "NotReached") Nothing)
refusal_of Memory = None
