-- What the fault line reports for a graph whose LUTs are too much work.
use Rattle.std.specs.Prelude.{Option, Some, None, codes}
use Rattle.cover_pick.specs.Words.{PickErr, Work, Memory}
use Rattle.tl_fault.specs.RefusalValue.{RefusalValue, refusal}
use Rattle.tl_fault.specs.declared.refusal.Details.TheVariants.{Nothing}

abbrev pub refusal_of : PickErr → Option RefusalValue
refusal_of Work = Some (refusal (codes "L6") (codes "Work") Nothing)
refusal_of Memory = None
