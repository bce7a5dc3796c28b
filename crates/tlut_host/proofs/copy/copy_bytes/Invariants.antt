use Rattle.tlut_host.proofs.Common.{◌≡◌, length, take, copied_plain}
use Rattle.tlut_host.proofs.copy.copy_bytes.Given as goal

abbrev pub invariant-loop-place : goal.invariant-loop-place
invariant-loop-place l = (l.to ≡ copied_plain (take l.place l.from) l.initial.to) × (length l.to ≡ length l.initial.to)
