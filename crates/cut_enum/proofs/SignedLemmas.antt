-- Signatures one after another: of the leaves of a cut, and of the cuts of a list.
use Rattle.cut_enum.proofs.Common.{◌≡◌, ℕ, zero, suc, ◌+◌, ◌-◌, ◌<◌, ◌≤◌, max, List, [], ◌∷◌, length, get_or, map, take, drop, slice_range, sym, ap, ◌∙◌, arith, bit_or, bit_at, or_zero_r, take-map, drop-map, length-map, drop_all, drop_more, bit_at_or, same_from_bits, leaf_bit, signature_of}

mapped_at : (cs : List (List ℕ)) (i : ℕ) (c : List ℕ) → i < length cs → c ≡ get_or cs i c → get_or (map signature_of cs) i 0 ≡ signature_of c
mapped_at [] i c l e = absurd (omega arith)
mapped_at (d ∷ ds) zero c l e = ap signature_of (sym e)
mapped_at (d ∷ ds) (suc i) c l e = mapped_at ds i c (omega arith) e

-- the signature at a cut's place is the cut's
pub signed_at : (words : List ℕ) (cs : List (List ℕ)) (i : ℕ) (c : List ℕ) → words ≡ map signature_of cs → i < length cs → c ≡ get_or cs i c → get_or words i 0 ≡ signature_of c
signed_at words cs i c w l e = ap (λ s. get_or s i 0) w ∙ mapped_at cs i c l e

-- there are as many
pub signed_length : (words : List ℕ) (cs : List (List ℕ)) → words ≡ map signature_of cs → length words ≡ length cs
signed_length words cs w = ap length w ∙ length-map cs signature_of

-- those at the head
pub signed_head : (words : List ℕ) (cs : List (List ℕ)) (n : ℕ) → words ≡ map signature_of cs → take n words ≡ map signature_of (take n cs)
signed_head words cs n w = ap (λ s. take n s) w ∙ take-map signature_of n cs

-- those of a range
pub signed_range : (words : List ℕ) (cs : List (List ℕ)) (a b : ℕ) → words ≡ map signature_of cs → slice_range words a b ≡ map signature_of (slice_range cs a b)
signed_range words cs a b w = ap (λ s. slice_range s a b) w ∙ ap (λ s. take (b - a) s) (drop-map signature_of a cs) ∙ take-map signature_of (b - a) (drop a cs)

-- those from a place on
pub signed_rest : (words : List ℕ) (cs : List (List ℕ)) (a : ℕ) → words ≡ map signature_of cs → slice_range words a (length words) ≡ map signature_of (slice_range cs a (length cs))
signed_rest words cs a w = signed_range words cs a (length words) w ∙ ap (λ b. map signature_of (slice_range cs a b)) (signed_length words cs w)
