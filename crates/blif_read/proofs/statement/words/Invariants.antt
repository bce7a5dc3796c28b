use Rattle.blif_read.proofs.Common.{◌≡◌, map, take, token_bytes}
use Rattle.blif_read.proofs.statement.words.Given as goal

abbrev pub invariant-loop-token : goal.invariant-loop-token
invariant-loop-token l = l.words.items ≡ map (token_bytes l.text) (take l.token-index l.tokens)
