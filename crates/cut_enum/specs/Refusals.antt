-- What each refusal of a graph says that has too many cuts.
use Rattle.std.specs.Prelude.{Option, Some, None, codes}
use Rattle.tl_fault.specs.RefusalValue.{RefusalValue, refusal}
use Rattle.tl_fault.specs.declared.refusal.Details.TheVariants.{Node}
use Rattle.cut_enum.specs.declared.table.CutErr.{CutErr}
use Rattle.cut_enum.specs.declared.table.CutErr.TheVariants.{NodeCuts, TotalCuts, Memory}

abbrev pub refusal_of : CutErr → Option RefusalValue
refusal_of (NodeCuts node) = Some (refusal (codes "L4") (codes "NodeCuts") (Node node))
refusal_of (TotalCuts node) = Some (refusal (codes "L5") (codes "TotalCuts") (Node node))
refusal_of Memory = None
