-- The hash of bytes under a key.
use Rattle.std.specs.Prelude.{ℕ, ◌-◌, ◌*◌, ◌/◌, ◌^◌, List, bit_and, bit_xor}
use Rattle.std.specs.Int.{from_le_bytes, w64}
use Rattle.std.specs.List.{fold}
use Rattle.text_key.specs.Words.{longer, chunks_of, rest_of}
use Rattle.text_key.specs.declared.key.TextKey.{TextKey}
use Rattle.text_key.specs.declared.keyed_hasher.KeyedHasher.{KeyedHasher}

-- the two halves of the product with the factor, joined by an exclusive or
abbrev pub folded : ℕ → ℕ → ℕ
folded factor word = bit_xor (bit_and (word * factor) (2 ^ 64 - 1)) (word * factor / 2 ^ 64)

-- the hasher under a key, before the first byte
abbrev pub hasher_of : TextKey → KeyedHasher
hasher_of key = record { hash = key.start; pending = 1; factor = key.factor }

-- eight bytes folded in
abbrev pub with_chunk : KeyedHasher → List ℕ → KeyedHasher
with_chunk h chunk = record { hash = folded h.factor (bit_xor h.hash (from_le_bytes w64 chunk)); pending = h.pending; factor = h.factor }

-- bytes collected
abbrev pub collected : KeyedHasher → List ℕ → KeyedHasher
collected h bytes = record { hash = h.hash; pending = fold longer h.pending bytes; factor = h.factor }

-- the hasher after bytes are written: eight at a time, and then those that are left over
abbrev pub written : KeyedHasher → List ℕ → KeyedHasher
written h bytes = collected (fold with_chunk h (chunks_of bytes)) (rest_of bytes)

-- the hash
abbrev pub hash_of : KeyedHasher → ℕ
hash_of h = folded h.factor (folded h.factor (bit_xor h.hash h.pending))
