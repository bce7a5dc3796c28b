-- What the fault line reports for each refusal of a pack file.
use Rattle.std.specs.Prelude.{Option, Some, None, codes}
use Rattle.tl_fault.specs.RefusalValue.{RefusalValue, refusal}
use Rattle.tl_fault.specs.declared.refusal.Details.TheVariants as details
use Rattle.ppc_file.specs.declared.pack_err.PackErr.{PackErr}
use Rattle.ppc_file.specs.declared.pack_err.PackErr.TheVariants.{Magic, Version, Truncated, BadName, BadNode, BadBit, Trailing, BadNumber, Memory}

abbrev pub refusal_of : PackErr → Option RefusalValue
refusal_of (Magic at) = Some (refusal (codes "K1") (codes "Magic") (details.Byte at))
refusal_of (Version at) = Some (refusal (codes "K2") (codes "Version") (details.Byte at))
refusal_of (Truncated at) = Some (refusal (codes "K3") (codes "Truncated") (details.Byte at))
refusal_of (BadName at) = Some (refusal (codes "K4") (codes "BadName") (details.Byte at))
refusal_of (BadNode at) = Some (refusal (codes "K5") (codes "BadNode") (details.Byte at))
refusal_of (BadBit at) = Some (refusal (codes "K6") (codes "BadBit") (details.Byte at))
refusal_of (Trailing at) = Some (refusal (codes "K7") (codes "Trailing") (details.Byte at))
refusal_of (BadNumber at) = Some (refusal (codes "K8") (codes "BadNumber") (details.Byte at))
refusal_of Memory = None
