-- Reading a part, and putting one more at the end.
use Rattle.cut_sets.proofs.Common.{◌≡◌, ℕ, zero, suc, ◌+◌, ◌<◌, ◌≤◌, List, [], ◌∷◌, ◌++◌, length, get_or, slice_range, refl, sym, ap, ◌∙◌, arith, length-drop, take-append-le, drop-append-le, drop_all, take_all, get_or_read, parts_from, parts_of, RisesTo, StartsTo}

pub rises_le : (last start : ℕ) (ends : List ℕ) → RisesTo last start ends → start ≤ last
rises_le last start [] r = omega arith
rises_le last start (e ∷ ends) r = let h : e ≤ last = rises_le last e ends r.1 in let k : start ≤ e = r.0 in omega arith

module _ {A : Type 0} where
  part_at : (start : ℕ) (ends : List ℕ) (items : List A) (n : ℕ) → n < length ends → get_or (parts_from start ends items) n [] ≡ slice_range items (get_or (start ∷ ends) n 0) (get_or ends n 0)
  part_at start [] items n l = absurd (omega arith)
  part_at start (e ∷ ends) items zero l = refl
  part_at start (e ∷ ends) items (suc n) l = part_at e ends items n (omega arith)

  -- a part lies between its place and the next one
  pub parts_of-at : (starts : List ℕ) (items : List A) (n : ℕ) → n + 1 < length starts → get_or (parts_of starts items) n [] ≡ slice_range items (get_or starts n 0) (get_or starts (n + 1) 0)
  parts_of-at [] items n l = absurd (omega arith)
  parts_of-at (s ∷ ends) items n l = let q : suc n ≡ n + 1 = omega arith in part_at s ends items n (omega arith) ∙ ap (λ m. slice_range items (get_or (s ∷ ends) n 0) (get_or (s ∷ ends) m 0)) q

  parts_past : (start : ℕ) (ends : List ℕ) (items : List A) (n : ℕ) → length ends ≤ n → get_or (parts_from start ends items) n [] ≡ []
  parts_past start [] items n l = refl
  parts_past start (e ∷ ends) items zero l = absurd (omega arith)
  parts_past start (e ∷ ends) items (suc n) l = parts_past e ends items n (omega arith)

  -- past the last place there is none
  pub parts_of-past : (starts : List ℕ) (items : List A) (n : ℕ) → length starts ≤ n + 1 → get_or (parts_of starts items) n [] ≡ []
  parts_of-past [] items n l = refl
  parts_of-past (s ∷ ends) items n l = parts_past s ends items n (omega arith)

  slice-append : (items more : List A) (a b : ℕ) → a ≤ b → b ≤ length items → slice_range (items ++ more) a b ≡ slice_range items a b
  slice-append items more a b h k = grind (arith, drop-append-le, take-append-le, length-drop)

  slice-new : (items more : List A) (b : ℕ) → b ≡ length items + length more → slice_range (items ++ more) (length items) b ≡ more
  slice-new items more b e = grind (arith, drop-append-le, drop_all, take_all)

  parts_push : (start : ℕ) (ends : List ℕ) (items more : List A) (b : ℕ) → RisesTo (length items) start ends → b ≡ length items + length more
      → parts_from start (ends ++ b ∷ []) (items ++ more) ≡ parts_from start ends items ++ more ∷ []
  parts_push start [] items more b r e = ap (λ s. s ∷ []) (ap (λ m. slice_range (items ++ more) m b) r ∙ slice-new items more b e)
  parts_push start (n ∷ ends) items more b r e = grind (arith, rises_le, slice-append, slice_range, parts_push n ends items more b r.1 e)

  -- one more part at the end
  pub parts_of-push : (starts : List ℕ) (items more : List A) (b : ℕ) → StartsTo (length items) starts → b ≡ length items + length more
      → parts_of (starts ++ b ∷ []) (items ++ more) ≡ parts_of starts items ++ more ∷ []
  parts_of-push [] items more b r e = absurd r
  parts_of-push (s ∷ ends) items more b r e = parts_push s ends items more b r e

rises_push : (last start : ℕ) (ends : List ℕ) (b : ℕ) → RisesTo last start ends → last ≤ b → RisesTo b start (ends ++ b ∷ [])
rises_push last start [] b r l = (omega arith, refl)
rises_push last start (e ∷ ends) b r l = (r.0, rises_push last e ends b r.1 l)

pub starts_push : (last : ℕ) (starts : List ℕ) (b : ℕ) → StartsTo last starts → last ≤ b → StartsTo b (starts ++ b ∷ [])
starts_push last [] b r l = absurd r
starts_push last (s ∷ ends) b r l = rises_push last s ends b r l

-- a place and the next one are in order and in the list
pub starts-bounds : (last : ℕ) (starts : List ℕ) (n : ℕ) → StartsTo last starts → n + 1 < length starts → (get_or starts n 0 ≤ get_or starts (n + 1) 0) × (get_or starts (n + 1) 0 ≤ last)
starts-bounds last [] n r l = absurd r
starts-bounds last (s ∷ []) n r l = absurd (omega arith)
starts-bounds last (s ∷ (e ∷ ends)) zero r l = (r.0, rises_le last e ends r.1)
starts-bounds last (s ∷ (e ∷ ends)) (suc n) r l = grind (arith, starts-bounds last (e ∷ ends) n r.1 (omega arith))

-- where a part lies, and that it is this one
pub record IsPartAt {A : Type 0} (starts : List ℕ) (items : List A) (n a b : ℕ) : Type 0 where
  pub ordered : a ≤ b
  pub inside : b ≤ length items
  pub is : slice_range items a b ≡ get_or (parts_of starts items) n []

pub part_between : {A : Type 0} (starts : List ℕ) (items : List A) (n a b : ℕ) → StartsTo (length items) starts → n + 1 < length starts → a ≡ get_or starts n a → b ≡ get_or starts (n + 1) b → IsPartAt starts items n a b
part_between starts items n a b flat l e f =
    let p : a ≡ get_or starts n 0 = get_or_read starts n a (omega arith) e 0 in
    let q : b ≡ get_or starts (n + 1) 0 = get_or_read starts (n + 1) b l f 0 in
    let h = starts-bounds (length items) starts n flat l in
    record { ordered = omega arith; inside = omega arith; is = ap (λ m. slice_range items m b) p ∙ ap (λ m. slice_range items (get_or starts n 0) m) q ∙ sym (parts_of-at starts items n l) }

-- there is a part for each place but the last one
parts_count : {A : Type 0} (start : ℕ) (ends : List ℕ) (items : List A) → length (parts_from start ends items) ≡ length ends
parts_count start [] items = refl
parts_count start (e ∷ ends) items = let r : length (parts_from e ends items) ≡ length ends = parts_count e ends items in omega arith

pub parts_of-count : {A : Type 0} (last : ℕ) (starts : List ℕ) (items : List A) → StartsTo last starts → length (parts_of starts items) + 1 ≡ length starts
parts_of-count last [] items r = absurd r
parts_of-count last (s ∷ ends) items r = let c : length (parts_from s ends items) ≡ length ends = parts_count s ends items in omega arith
