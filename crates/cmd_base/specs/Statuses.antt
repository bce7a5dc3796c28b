-- The status of each outcome, and the number of each status.
use Rattle.std.specs.Prelude.{ℕ, if◌then◌else◌}
use Rattle.cmd_base.specs.Words.{RefusalValue, is_limit}
use Rattle.cmd_base.specs.declared.status.Status.{Status}
use Rattle.cmd_base.specs.declared.status.Status.TheVariants as status
use Rattle.cmd_base.specs.declared.outcome.Outcome.{Outcome}
use Rattle.cmd_base.specs.declared.outcome.Outcome.TheVariants as outcome

abbrev pub refusal_status : RefusalValue → Status
refusal_status refusal = if is_limit refusal then status.Limit else status.Refused

abbrev pub status_of : Outcome → Status
status_of outcome.Done = status.Done
status_of outcome.Usage = status.Usage
status_of (outcome.TooLong file) = status.Limit
status_of (outcome.Refused file refusal) = refusal_status refusal
status_of (outcome.ReadFault file) = status.ReadFault
status_of outcome.WriteFault = status.WriteFault
status_of outcome.PortFault = status.PortFault
status_of outcome.Memory = status.Memory

abbrev pub code_of : Status → ℕ
code_of status.Done = 0
code_of status.Usage = 2
code_of status.Refused = 3
code_of status.Limit = 4
code_of status.ReadFault = 5
code_of status.WriteFault = 6
code_of status.PortFault = 7
code_of status.Memory = 8
