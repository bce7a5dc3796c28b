use Rattle.flow_cert.proofs.Common.{◌≡◌, List, Bool, [], take, length, AreTaken, AreMarkedTo}
use Rattle.flow_cert.proofs.marks.mark_path.Given as goal

abbrev pub invariant-loop-m : goal.invariant-loop-m
invariant-loop-m l = record {
  size : length l.marks.items ≡ length l.fn.marks.items;
  room : length l.met ≡ length l.fn.met;
  taken : AreTaken l.step l.place (take l.m-index l.path.nodes) l.met;
  marked : (old : List Bool) → AreMarkedTo l.step l.place [] old l.fn.marks.items → AreMarkedTo l.step l.place (take l.m-index l.path.nodes) old l.marks.items;
}
