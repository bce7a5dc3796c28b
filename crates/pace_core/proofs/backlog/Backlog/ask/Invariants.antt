use Rattle.pace_core.proofs.Common.{◌≡◌, ◌+◌, Bool, List, length, take, written, differences, IsBehind}
use Rattle.pace_core.proofs.backlog.Backlog.ask.Given as goal

abbrev pub invariant-loop-write : goal.invariant-loop-write
invariant-loop-write g l = record {
  behind : (from to : List Bool) → IsBehind l.initial.self from → l.changed ≡ differences from to → length from ≡ length to → IsBehind l.self (written from (take l.write-index l.changed));
  config : l.self.config ≡ l.initial.self.config;
  writes : l.self.writes ≡ l.initial.self.writes;
  looks : l.self.looks ≡ l.initial.self.looks + l.write-index;
  cost : l.steps ≡ l.initial.steps + l.write-index;
}
