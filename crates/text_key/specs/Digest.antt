-- The key of a text.
use Rattle.std.specs.Prelude.{ℕ, ◌+◌, ◌%◌, ◌^◌, List, bit_or, bit_xor}
use Rattle.std.specs.Int.{from_le_bytes, rotate_left, w64}
use Rattle.std.specs.List.{fold}
use Rattle.text_key.specs.Words.{longer, chunks_of, rest_of}
use Rattle.text_key.specs.declared.digest.Digest.{Digest}
use Rattle.text_key.specs.declared.key.TextKey.{TextKey}

-- the sum of two words, without its carry
abbrev pub plus : ℕ → ℕ → ℕ
plus x y = (x + y) % 2 ^ 64

-- the state of SipHash with the keys 0 and the long output
abbrev pub start : Digest
start = record { v0 = 0x736f_6d65_7073_6575; v1 = 0x646f_7261_6e64_6f83; v2 = 0x6c79_6765_6e65_7261; v3 = 0x7465_6462_7974_6573 }

-- its state with the words of a key
abbrev pub behind_key : TextKey → Digest
behind_key key = record { v0 = bit_xor start.v0 key.start; v1 = bit_xor start.v1 key.factor; v2 = bit_xor start.v2 key.start; v3 = bit_xor start.v3 key.factor }

-- the state after a round
unfoldable pub rounded : Digest → Digest
rounded s =
    let a0 = plus s.v0 s.v1 in
    let a2 = plus s.v2 s.v3 in
    let a1 = bit_xor (rotate_left w64 s.v1 13) a0 in
    let a3 = bit_xor (rotate_left w64 s.v3 16) a2 in
    let b0 = plus (rotate_left w64 a0 32) a3 in
    let b2 = plus a2 a1 in
    record { v0 = b0; v1 = bit_xor (rotate_left w64 a1 17) b2; v2 = rotate_left w64 b2 32; v3 = bit_xor (rotate_left w64 a3 21) b0 }

-- the state after a word
unfoldable pub with_word : Digest → ℕ → Digest
with_word s word =
    let mixed = rounded (record { v0 = s.v0; v1 = s.v1; v2 = s.v2; v3 = bit_xor s.v3 word }) in
    record { v0 = bit_xor mixed.v0 word; v1 = mixed.v1; v2 = mixed.v2; v3 = mixed.v3 }

-- the state after a word of eight bytes, the lowest first
abbrev pub with_chunk : Digest → List ℕ → Digest
with_chunk s chunk = with_word s (from_le_bytes w64 chunk)

-- the state after bytes: words of eight, and then a word of those that are left over after a 1
abbrev pub with_bytes : Digest → List ℕ → Digest
with_bytes s bytes = with_word (fold with_chunk s (chunks_of bytes)) (fold longer 1 (rest_of bytes))

-- the four words of a state, joined
abbrev pub key_word : Digest → ℕ
key_word s = bit_xor (bit_xor (bit_xor s.v0 s.v1) s.v2) s.v3

-- the state after three rounds
abbrev pub thrice : Digest → Digest
thrice s = rounded (rounded (rounded s))

-- the first state that a key is read from, and the second
abbrev pub first_of : Digest → Digest
first_of s = thrice (record { v0 = s.v0; v1 = s.v1; v2 = bit_xor s.v2 0xee; v3 = s.v3 })

abbrev pub second_of : Digest → Digest
second_of s = thrice (record { v0 = s.v0; v1 = bit_xor s.v1 0xdd; v2 = s.v2; v3 = s.v3 })

-- the key of what was added: the two words of SipHash's long output, the second one made odd
abbrev pub key_of_digest : Digest → TextKey
key_of_digest s = record { start = key_word (first_of s); factor = bit_or (key_word (second_of (first_of s))) 1 }

-- the key of a text
abbrev pub key_of : List ℕ → TextKey
key_of text = key_of_digest (with_bytes start text)
