use Rattle.flow_cert.proofs.Common.{◌≡◌, [], length, AreTaken, AreMarkedTo}
use Rattle.flow_cert.proofs.marks.mark_shared.Given as goal

abbrev pub invariant-loop-place : goal.invariant-loop-place
invariant-loop-place l = record {
  room : length l.met ≡ length l.fn.met;
  taken : AreTaken l.step l.place [] l.met;
  marked : AreMarkedTo l.step l.place [] l.fn.marks.items l.marks.items;
}
