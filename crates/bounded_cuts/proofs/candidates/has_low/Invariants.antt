use Rattle.bounded_cuts.proofs.Common.{◌<◌, In, take, Candidate}
use Rattle.bounded_cuts.proofs.candidates.has_low.Given as goal

abbrev pub invariant-loop-candidate : goal.invariant-loop-candidate
invariant-loop-candidate l = (c : Candidate) → In (take l.candidate-index l.all) c → l.label < c.height
