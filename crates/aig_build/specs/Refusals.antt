-- What the fault line reports for a refusal of a netlist's graph.
use Rattle.std.specs.Prelude.{Option, Some, None, codes}
use Rattle.tl_fault.specs.RefusalValue.{RefusalValue, refusal}
use Rattle.tl_fault.specs.declared.refusal.Details.TheVariants.{Nothing}
use Rattle.aig_build.specs.declared.build_err.BuildErr.{BuildErr}
use Rattle.aig_build.specs.declared.build_err.BuildErr.TheVariants.{TooManyNodes, Memory}

abbrev pub refusal_of : BuildErr → Option RefusalValue
refusal_of TooManyNodes = Some (refusal (codes "L3") (codes "TooManyNodes") Nothing)
refusal_of Memory = None
