use Rattle.cmd_run.proofs.Common.{◌≡◌, number}
use Rattle.cmd_run.proofs.TotalLemmas.{number_below}
use Rattle.cmd_run.proofs.gen_command.totals.number_of.Given as goal

abbrev pub invariant-loop-digit : goal.invariant-loop-digit
invariant-loop-digit l = number_below l.value l.digit-iterator.iter.rest.now ≡ number l.digits
