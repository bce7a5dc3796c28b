use Rattle.tl_text.proofs.Common.{◌≡◌, drop, fold}
use Rattle.text_key.specs.Digest.{behind_key, with_bytes}
use Rattle.tl_text.proofs.name_index.key_behind.Given as goal

abbrev pub invariant-loop-name : goal.invariant-loop-name
invariant-loop-name l = fold with_bytes l.digest (drop l.name-index l.names) ≡ fold with_bytes (behind_key l.fn.key) l.names
