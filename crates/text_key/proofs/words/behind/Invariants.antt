use Rattle.std.specs.Prelude.{◌≡◌, drop}
use Rattle.std.specs.List.{fold}
use Rattle.text_key.specs.Words.{longer}
use Rattle.text_key.proofs.words.behind.Given as goal

abbrev pub invariant-loop-byte : goal.invariant-loop-byte
invariant-loop-byte l = fold longer l.all (drop l.byte-index l.bytes) ≡ fold longer l.fn.word l.bytes
