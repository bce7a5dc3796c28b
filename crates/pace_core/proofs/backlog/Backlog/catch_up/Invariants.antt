use Rattle.pace_core.proofs.Common.{◌≡◌, ◌+◌, ◌≤◌, Bool, List, length, IsBehind, IsLate, IsCatchingUp}
use Rattle.pace_core.proofs.backlog.Backlog.catch_up.Given as goal

abbrev pub invariant-loop-self : goal.invariant-loop-self
invariant-loop-self g l = record {
  late : IsLate l.self;
  come : (wanted : List Bool) → IsBehind l.fn.self wanted → IsCatchingUp wanted l.fn.self l.self;
  few : length l.self.writes ≤ l.rate;
  looks : l.self.looks ≡ l.fn.self.looks + length l.self.writes;
  cost : l.steps ≡ l.fn.steps + length l.self.writes;
}

abbrev pub decreases-loop-self : goal.decreases-loop-self
decreases-loop-self g l = l.self.waiting
