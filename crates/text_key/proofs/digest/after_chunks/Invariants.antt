use Rattle.std.specs.Prelude.{◌≡◌, drop}
use Rattle.std.specs.List.{fold}
use Rattle.text_key.specs.Digest.{with_chunk}
use Rattle.text_key.proofs.digest.after_chunks.Given as goal

abbrev pub invariant-loop-chunk : goal.invariant-loop-chunk
invariant-loop-chunk l = fold with_chunk l.all (drop l.chunk-index l.chunks) ≡ fold with_chunk l.fn.state l.chunks
