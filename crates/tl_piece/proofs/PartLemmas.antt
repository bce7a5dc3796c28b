-- Texts that loops add to a writer, part by part.
use Rattle.tl_piece.proofs.Common.{◌≡◌, ℕ, zero, suc, ◌+◌, ◌<◌, List, [], ◌∷◌, ◌++◌, length, get_or, take, map, replicate, refl, sym, ap, ◌∙◌, arith, append-nil, add-one, take_more, map-append, SinkSeen, IsAdded, Writer}
use Rattle.std.specs.List.{flat_map, range_with_len}
use Rattle.std.proofs.lemmas.List.Concat.{flat_map-append}
use Rattle.tl_piece.proofs.AddedLemmas.{added_as, added_to}

-- the parts before an index, and the one there
one_more : {X : Type 0} (f : X → List ℕ) (xs : List X) (i : ℕ) (d : X) → i < length xs → flat_map f (take i xs) ++ f (get_or xs i d) ≡ flat_map f (take (i + 1) xs)
one_more f xs i d h =
    sym (ap (flat_map f) (take_more xs i d h) ∙ flat_map-append f (take i xs) (get_or xs i d ∷ []) ∙ ap (λ (t : List ℕ). flat_map f (take i xs) ++ t) (append-nil (f (get_or xs i d))))

-- a loop over items adds the part of the next one
pub added_part : {O X : Type 0} {seen : O → SinkSeen} {old mid new : Writer O} (f : X → List ℕ) (xs : List X) (i : ℕ) (d : X) → i < length xs → IsAdded seen old (flat_map f (take i xs)) mid
    → IsAdded seen mid (f (get_or xs i d)) new → IsAdded seen old (flat_map f (take (i + 1) xs)) new
added_part f xs i d h a b = added_to (one_more f xs i d h) a b

pub added_item : {O X : Type 0} {seen : O → SinkSeen} {old mid new : Writer O} (f : X → List ℕ) (xs : List X) (i : ℕ) (x : X) → i < length xs → x ≡ get_or xs i x
    → IsAdded seen old (flat_map f (take i xs)) mid → IsAdded seen mid (f x) new → IsAdded seen old (flat_map f (take (i + 1) xs)) new
added_item f xs i x h e a b = added_part f xs i x h a (added_as (ap f e) b)

-- a loop over items adds a byte for the next one
pub added_byte : {O X : Type 0} {seen : O → SinkSeen} {old mid new : Writer O} (f : X → ℕ) (xs : List X) (i byte : ℕ) (d : X) → i < length xs → byte ≡ f (get_or xs i d)
    → IsAdded seen old (map f (take i xs)) mid → IsAdded seen mid (byte ∷ []) new → IsAdded seen old (map f (take (i + 1) xs)) new
added_byte f xs i byte d h e a b =
    added_to (ap (λ (y : ℕ). map f (take i xs) ++ y ∷ []) e ∙ sym (ap (map f) (take_more xs i d h) ∙ map-append f (take i xs) (get_or xs i d ∷ []))) a b

-- a loop over a text adds its next byte
pub added_next_byte : {O : Type 0} {seen : O → SinkSeen} {old mid new : Writer O} (text : List ℕ) (i : ℕ) → i < length text
    → IsAdded seen old (take i text) mid → IsAdded seen mid (get_or text i 0 ∷ []) new → IsAdded seen old (take (i + 1) text) new
added_next_byte text i h a b = added_to (sym (take_more text i 0 h)) a b

-- the next number of a range
range_next : (from count at : ℕ) → from + count ≡ at → range_with_len from (suc count) ≡ range_with_len from count ++ at ∷ []
range_next from zero at e = ap (λ (k : ℕ). k ∷ []) (let d : from ≡ at = omega arith in d)
range_next from (suc count) at e = ap (λ (ks : List ℕ). from ∷ ks) (range_next (from + 1) count at (omega arith))

one_further : (f : ℕ → List ℕ) (from count at : ℕ) → from + count ≡ at → flat_map f (range_with_len from count) ++ f at ≡ flat_map f (range_with_len from (count + 1))
one_further f from count at e =
    sym (ap (λ (n : ℕ). flat_map f (range_with_len from n)) (add-one count) ∙ ap (flat_map f) (range_next from count at e) ∙ flat_map-append f (range_with_len from count) (at ∷ [])
    ∙ ap (λ (t : List ℕ). flat_map f (range_with_len from count) ++ t) (append-nil (f at)))

-- a loop over a range adds the part of the next number
pub added_next : {O : Type 0} {seen : O → SinkSeen} {old mid new : Writer O} (f : ℕ → List ℕ) (from count at : ℕ) → from + count ≡ at → IsAdded seen old (flat_map f (range_with_len from count)) mid
    → IsAdded seen mid (f at) new → IsAdded seen old (flat_map f (range_with_len from (count + 1))) new
added_next f from count at e a b = added_to (one_further f from count at e) a b

-- a loop adds the same byte once more
once_more : (byte n : ℕ) → replicate n byte ++ byte ∷ [] ≡ replicate (suc n) byte
once_more byte zero = refl
once_more byte (suc n) = ap (λ (t : List ℕ). byte ∷ t) (once_more byte n)

pub added_again : {O : Type 0} {seen : O → SinkSeen} {old mid new : Writer O} (byte n : ℕ) → IsAdded seen old (replicate n byte) mid → IsAdded seen mid (byte ∷ []) new → IsAdded seen old (replicate (n + 1) byte) new
added_again byte n a b = added_to (once_more byte n ∙ ap (λ (k : ℕ). replicate k byte) (sym (add-one n))) a b
