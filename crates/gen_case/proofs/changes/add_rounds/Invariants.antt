use Rattle.gen_case.proofs.Common.{◌≡◌, ◌-◌, ◌++◌, string_bytes, text_of}
use Rattle.gen_case.specs.Script.{rounds}
use Rattle.gen_case.proofs.changes.add_rounds.Given as goal

abbrev pub invariant-loop-round : goal.invariant-loop-round
invariant-loop-round l = string_bytes l.text ≡ string_bytes l.initial.text ++ text_of (rounds l.n l.seed (l.round - 1))
