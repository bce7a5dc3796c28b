-- The words of a group, and the cuts that have them.
use Rattle.cut_enum.proofs.Common.{◌≡◌, ℕ, suc, ◌+◌, ◌*◌, ◌-◌, ◌^◌, ◌<◌, ◌≤◌, Bool, false, ◌||◌, List, [], ◌∷◌, length, get_or, map, drop, slice_range, refl, sym, ap, ◌∙◌, arith, length-drop, list_any, length-take, GROUP, NoneClear, subset, signature_of, outside-subset}
use Rattle.std.proofs.lemmas.List.Folds.{drop_split, list_any-append}

-- none of a group whose words all have a bit outside is a part
pub none_clear : (cut : List ℕ) (outside : ℕ) → outside + signature_of cut ≡ 2 ^ 64 - 1 → (cs : List (List ℕ)) → ((i : ℕ) → i < length (map signature_of cs) → get_or (map signature_of cs) i 0 < 2 ^ 64)
    → NoneClear outside (map signature_of cs) → false ≡ list_any (λ d. subset d cut) cs
none_clear cut outside o [] l h = refl
none_clear cut outside o (d ∷ ds) l h =
    none_clear cut outside o ds (λ i k. l (suc i) (omega arith)) (λ i k. h (suc i) (omega arith))
    ∙ ap (λ b. b || list_any (λ e. subset e cut) ds) (outside-subset d cut outside o (l 0 (omega arith)) (h 0 (omega arith)))

-- a whole group has so many words
pub group_length : (words : List ℕ) (a : ℕ) → a + GROUP ≤ length words → length (slice_range words a (a + GROUP)) ≡ GROUP
group_length words a l = omega (arith, length-drop a words, length-take (a + GROUP - a) (drop a words))

-- the cuts from a place on: those of a group, and the rest
pub any_group : (cut : List ℕ) (cs : List (List ℕ)) (a b : ℕ) → a ≤ b → list_any (λ d. subset d cut) (drop a cs) ≡ (list_any (λ d. subset d cut) (slice_range cs a b) || list_any (λ d. subset d cut) (drop b cs))
any_group cut cs a b l = ap (λ s. list_any (λ d. subset d cut) s) (drop_split cs a b l) ∙ list_any-append (λ d. subset d cut) (slice_range cs a b) (drop b cs)

-- a group that has no part is passed over
pub group_passed : (cut : List ℕ) (cs : List (List ℕ)) (n : ℕ) (all : Bool) → list_any (λ d. subset d cut) (slice_range cs (n * GROUP) (n * GROUP + GROUP)) ≡ false → list_any (λ d. subset d cut) (drop (n * GROUP) cs) ≡ all
    → list_any (λ d. subset d cut) (drop ((n + 1) * GROUP) cs) ≡ all
group_passed cut cs n all none e =
    let step = any_group cut cs (n * GROUP) (n * GROUP + GROUP) (omega arith) ∙ ap (λ b. b || list_any (λ d. subset d cut) (drop (n * GROUP + GROUP) cs)) none in
    ap (λ a. list_any (λ d. subset d cut) (drop a cs)) (omega arith) ∙ sym step ∙ e
