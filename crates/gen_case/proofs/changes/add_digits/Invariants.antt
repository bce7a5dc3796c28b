use Rattle.gen_case.proofs.Common.{◌≡◌, ◌++◌, string_bytes, digits_text}
use Rattle.gen_case.proofs.changes.add_digits.Given as goal

abbrev pub invariant-loop-place : goal.invariant-loop-place
invariant-loop-place l = string_bytes l.text ≡ string_bytes l.initial.text ++ digits_text l.place l.value
