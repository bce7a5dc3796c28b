use Rattle.gen_case.proofs.Common.{◌≡◌, ◌++◌, string_bytes, map, below, setting, after_blanks}
use Rattle.gen_case.proofs.changes.add_settings.Given as goal

abbrev pub invariant-loop-place : goal.invariant-loop-place
invariant-loop-place l = string_bytes l.text ≡ string_bytes l.initial.text ++ after_blanks (map (setting l.value) (below l.place))
