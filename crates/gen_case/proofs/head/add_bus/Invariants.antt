use Rattle.gen_case.proofs.Common.{◌≡◌, ◌++◌, string_bytes, bus_names, after_blanks}
use Rattle.gen_case.proofs.head.add_bus.Given as goal

abbrev pub invariant-loop-place : goal.invariant-loop-place
invariant-loop-place l = string_bytes l.text ≡ string_bytes l.initial.text ++ after_blanks (bus_names l.bus l.place)
