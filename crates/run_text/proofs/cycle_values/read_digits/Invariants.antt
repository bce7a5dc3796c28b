use Rattle.run_text.proofs.Common.{◌≡◌, Some, take, each_of, digit_bit}
use Rattle.run_text.proofs.cycle_values.read_digits.Given as goal

abbrev pub invariant-loop-digit : goal.invariant-loop-digit
invariant-loop-digit l = each_of digit_bit (take l.digit-index l.word) ≡ Some l.values.items
