use Rattle.cert_check.proofs.Common.{◌≡◌, Some, map, take, token_bytes, numbers_of}
use Rattle.cert_check.proofs.saying.read_numbers.Given as goal

abbrev pub invariant-loop-token : goal.invariant-loop-token
invariant-loop-token l = numbers_of (map (token_bytes l.text) (take l.token-index l.tokens)) ≡ Some l.numbers.items
