use Rattle.aig_build.proofs.Common.{◌≡◌, ◌+◌, drop, length, with_param_lits}
use Rattle.aig_build.proofs.net_lits.set_param_lits.Given as goal

abbrev pub invariant-loop-param : goal.invariant-loop-param
invariant-loop-param l = record {
  lits : with_param_lits l.lits l.next (drop l.param-index l.params) ≡ with_param_lits l.initial.lits l.first l.params;
  next : l.next ≡ l.first + l.param-index;
  count : length l.lits ≡ length l.initial.lits;
}
