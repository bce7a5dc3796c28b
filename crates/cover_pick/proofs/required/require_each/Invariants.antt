use Rattle.cover_pick.proofs.Common.{◌≡◌, drop, require_each}
use Rattle.cover_pick.proofs.required.require_each.Given as goal

abbrev pub invariant-loop-m : goal.invariant-loop-m
invariant-loop-m l = require_each l.reqs (drop l.m-index l.leaves) l.r ≡ require_each l.initial.reqs l.leaves l.r
