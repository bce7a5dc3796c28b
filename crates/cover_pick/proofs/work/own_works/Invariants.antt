use Rattle.cover_pick.proofs.Common.{drop}
use Rattle.cover_pick.proofs.CountedLemmas.{AreOwnCounted}
use Rattle.cover_pick.proofs.work.own_works.Given as goal

abbrev pub invariant-loop-lut : goal.invariant-loop-lut
invariant-loop-lut l = AreOwnCounted l.graph l.once l.luts (drop l.lut-index l.luts) l.work l.search
