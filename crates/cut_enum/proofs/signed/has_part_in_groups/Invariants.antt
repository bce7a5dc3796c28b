use Rattle.cut_enum.proofs.Common.{◌≡◌, ◌*◌, drop, list_any, GROUP, subset}
use Rattle.cut_enum.proofs.signed.has_part_in_groups.Given as goal

abbrev pub invariant-loop-n : goal.invariant-loop-n
invariant-loop-n l = list_any (λ d. subset d l.cut) (drop (l.n * GROUP) l.parts) ≡ list_any (λ d. subset d l.cut) l.parts
