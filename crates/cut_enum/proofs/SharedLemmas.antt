-- The bits that the words of a group share.
use Rattle.cut_enum.proofs.Common.{◌≡◌, ℕ, suc, ◌+◌, ◌-◌, ◌*◌, ◌^◌, ◌<◌, ◌≤◌, max, min, false, ◌||◌, List, [], ◌∷◌, length, get_or, map, take, refl, sym, ap, ◌∙◌, inl, inr, arith, bit_or, bit_at, bit_and, list_any, cases_Bool, cases_lt, get_or-take, length-take, bit_at_or, bit_at_and, same_from_bits, GROUP, AllHave, AreShared, subset, signature_of, rules, subset_true, signature-within, outside-none}

-- a word has the bits that it shares with another
both_had : (bits word : ℕ) → bit_or (bit_and bits word) word ≡ word
both_had bits word =
    same_from_bits (bit_or (bit_and bits word) word) word
    (λ j. let o : bit_at (bit_or (bit_and bits word) word) j ≡ max (bit_at (bit_and bits word) j) (bit_at word j) = bit_at_or (bit_and bits word) word j in
    let a : bit_at (bit_and bits word) j ≡ min (bit_at bits j) (bit_at word j) = bit_at_and bits word j in omega arith)

-- a word that has some bits has those of them that another word has
fewer_had : (bits other word : ℕ) → bit_or bits word ≡ word → bit_or (bit_and bits other) word ≡ word
fewer_had bits other word h =
    same_from_bits (bit_or (bit_and bits other) word) word
    (λ j. let o : bit_at (bit_or (bit_and bits other) word) j ≡ max (bit_at (bit_and bits other) j) (bit_at word j) = bit_at_or (bit_and bits other) word j in
    let q : bit_at (bit_or bits word) j ≡ bit_at word j = ap (λ m. bit_at m j) h in omega (arith, bit_at_or bits word j, bit_at_and bits other j))

-- what has bits that another word has
had_within : (bits word whole : ℕ) → bit_or bits word ≡ word → bit_or word whole ≡ whole → bit_or bits whole ≡ whole
had_within bits word whole h k =
    same_from_bits (bit_or bits whole) whole
    (λ j. let o : bit_at (bit_or bits whole) j ≡ max (bit_at bits j) (bit_at whole j) = bit_at_or bits whole j in
    let s : bit_at (bit_or word whole) j ≡ bit_at whole j = ap (λ m. bit_at m j) k in omega (arith, bit_at_or word whole j, ap (λ m. bit_at m j) h, bit_at_or bits word j))

-- one more word
pub shared_next : (words : List ℕ) (bits i : ℕ) → ((k : ℕ) → k < i → bit_or bits (get_or words k 0) ≡ get_or words k 0) → (k : ℕ) → k < i + 1 → bit_or (bit_and bits (get_or words i 0)) (get_or words k 0) ≡ get_or words k 0
shared_next words bits i h k l = search (rules, cases_lt, fewer_had, bit_or, both_had)

-- the groups at the head
pub share_head : (words shared : List ℕ) (count m : ℕ) → AreShared words shared → m ≤ length shared → m * GROUP ≤ count → count ≤ length words → AreShared (take count words) (take m shared)
share_head words shared count m g s c l = grind (arith, length-take, get_or-take, bit_or)

-- one that has a bit outside is no part
not_part : (d cut : List ℕ) (outside shared : ℕ) → outside + signature_of cut ≡ 2 ^ 64 - 1 → shared < 2 ^ 64 → (bit_and outside shared ≡ 0 → ⊥) → bit_or shared (signature_of d) ≡ signature_of d → subset d cut ≡ false
not_part d cut outside shared o l n h = elim (cases_Bool (subset d cut)) [
  | inl t ↦ absurd (n (outside-none shared (signature_of cut) outside o l (had_within shared (signature_of d) (signature_of cut) h (signature-within d cut (subset_true d cut t)))))
  | inr f ↦ f
]

-- none of a group whose shared bits have one outside is a part
pub none_have : (cut : List ℕ) (outside shared : ℕ) → outside + signature_of cut ≡ 2 ^ 64 - 1 → shared < 2 ^ 64 → (bit_and outside shared ≡ 0 → ⊥) → (cs : List (List ℕ)) → AllHave shared (map signature_of cs) → false ≡ list_any (λ d. subset d cut) cs
none_have cut outside shared o l n [] h = refl
none_have cut outside shared o l n (d ∷ ds) h =
    none_have cut outside shared o l n ds (λ i k. h (suc i) (omega arith)) ∙ ap (λ b. b || list_any (λ e. subset e cut) ds) (sym (not_part d cut outside shared o l n (h 0 (omega arith))))
