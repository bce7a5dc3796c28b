use Rattle.tlut_host.proofs.Common.{◌≡◌, length, take, copied}
use Rattle.tlut_host.proofs.copy.copy_writes.Given as goal

abbrev pub invariant-loop-place : goal.invariant-loop-place
invariant-loop-place l = (l.to ≡ copied (take l.place l.from) l.initial.to) × (length l.to ≡ length l.initial.to)
