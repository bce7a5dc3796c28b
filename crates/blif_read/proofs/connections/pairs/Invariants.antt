use Rattle.blif_read.proofs.Common.{◌≡◌, [], ◌++◌, drop, connections_fault, pairs_of}
use Rattle.blif_read.proofs.connections.pairs.Given as goal

abbrev pub invariant-loop-word : goal.invariant-loop-word
invariant-loop-word l =
    (connections_fault l.number l.formals (drop l.word-index l.words) ≡ connections_fault l.number [] l.words)
    × (l.pairs.items ++ pairs_of (drop l.word-index l.words) ≡ pairs_of l.words)
