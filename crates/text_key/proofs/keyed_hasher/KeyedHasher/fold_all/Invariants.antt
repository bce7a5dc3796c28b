use Rattle.std.specs.Prelude.{◌≡◌, drop}
use Rattle.std.specs.List.{fold}
use Rattle.text_key.specs.KeyedHash.{with_chunk}
use Rattle.text_key.proofs.keyed_hasher.KeyedHasher.fold_all.Given as goal

abbrev pub invariant-loop-chunk : goal.invariant-loop-chunk
invariant-loop-chunk l = fold with_chunk l.self (drop l.chunk-index l.chunks) ≡ fold with_chunk l.initial.self l.chunks
