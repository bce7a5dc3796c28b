use Rattle.depth_first.proofs.Common.{◌≡◌, ℕ, ◌<◌, length, In, renewed_since}
use Rattle.depth_first.proofs.frames.renew_since.Given as goal

abbrev pub invariant-loop-frames : goal.invariant-loop-frames
invariant-loop-frames l = ((n : ℕ) → In l.frames.begun n → n < length l.frames.marks) × (renewed_since l.count l.frames ≡ renewed_since l.count l.initial.frames)

abbrev pub decreases-loop-frames : goal.decreases-loop-frames
decreases-loop-frames l = length l.frames.begun
