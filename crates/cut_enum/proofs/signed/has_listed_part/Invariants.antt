use Rattle.cut_enum.proofs.Common.{◌≡◌, drop, list_any, subset}
use Rattle.cut_enum.proofs.signed.has_listed_part.Given as goal

abbrev pub invariant-loop-i : goal.invariant-loop-i
invariant-loop-i l = list_any (λ d. subset d l.cut) (drop l.i l.cuts) ≡ list_any (λ d. subset d l.cut) l.cuts
