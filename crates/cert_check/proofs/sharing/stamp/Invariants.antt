use Rattle.cert_check.proofs.Common.{take, AreStamped}
use Rattle.cert_check.proofs.sharing.stamp.Given as goal

abbrev pub invariant-loop-m : goal.invariant-loop-m
invariant-loop-m l = AreStamped l.fn.stamps.items l.n (take l.m-index l.nodes) l.stamps.items
