use Rattle.tl_text.proofs.Common.{◌≡◌, ◌<◌, drop, list_all, is_digit, number_from}
use Rattle.tl_text.proofs.decimals.decimal.Given as goal

abbrev pub invariant-loop-b : goal.invariant-loop-b
invariant-loop-b l = record {
  digits : list_all is_digit (drop l.b-index l.text) ≡ list_all is_digit l.text;
  same : number_from l.number (drop l.b-index l.text) ≡ number_from 0 l.text;
  fits : l.number < 18446744073709551616;
}
