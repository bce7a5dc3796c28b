-- Pieces that are put one after another, and names, each after a blank.
use Rattle.cmd_base.proofs.Common.{◌≡◌, ℕ, ◌+◌, ◌<◌, List, [], ◌∷◌, ◌++◌, length, take, drop, map, get_or, refl, ap, sym, ◌∙◌, arith, append_assoc, append-nil, zero, suc, add-one, Bor, Result, Ok, Err, concat, inl, inr, SinkSeen, IsPut, Reports, codes, spaced}

abbrev pub texts : List (Bor (List ℕ)) → List ℕ
texts pieces = concat (map (λ piece. piece.now) pieces)

-- the pieces are those before one, that one, and the others
pub texts_split : (pieces : List (Bor (List ℕ))) (i : ℕ) (d : Bor (List ℕ)) → i < length pieces
    → texts pieces ≡ texts (take i pieces) ++ ((get_or pieces i d).now ++ texts (drop (suc i) pieces))
texts_split [] i d h = absurd (omega (arith, h))
texts_split (x ∷ xs) zero d h = refl
texts_split (x ∷ xs) (suc i) d h =
    let below : i < length xs = omega (arith, h) in
    ap (λ (t : List ℕ). x.now ++ t) (texts_split xs i d below) ∙ sym (append_assoc x.now (texts (take i xs)) _)

pub texts_more : (pieces : List (Bor (List ℕ))) (i : ℕ) (d : Bor (List ℕ)) → i < length pieces
    → texts (take (i + 1) pieces) ≡ texts (take i pieces) ++ (get_or pieces i d).now
texts_more [] i d h = absurd (omega (arith, h))
texts_more (x ∷ xs) zero d h = append-nil x.now
texts_more (x ∷ xs) (suc i) d h =
    let below : i < length xs = omega (arith, h) in
    rw add-one (ap (λ (t : List ℕ). x.now ++ t) (ap (λ (k : ℕ). texts (take k xs)) (sym (add-one i)) ∙ texts_more xs i d below) ∙ sym (append_assoc x.now (texts (take i xs)) _))

-- what a put says is what a report says
pub reports : {E : Type 0} {old new : SinkSeen} {line : List ℕ} (result : Result Unit E) → IsPut old line new result → Reports old new line
reports (Ok done) put = inl put.grown
reports (Err e) put = inr (put.cause.failed, put.grown)

-- one name after its blank, as it is put
abbrev pub blank_and : List ℕ → List ℕ
blank_and told = concat (codes " " ∷ told ∷ [])

spaced_first : (told : List ℕ) (names : List (List ℕ)) → spaced (told ∷ names) ≡ blank_and told ++ spaced names
spaced_first told names = ap (λ (t : List ℕ). codes " " ++ (t ++ spaced names)) (sym (append-nil told))

-- the names are those before one, that one, and the others
pub spaced_split : (names : List (List ℕ)) (i : ℕ) (d : List ℕ) → i < length names → spaced names ≡ spaced (take i names) ++ (blank_and (get_or names i d) ++ spaced (drop (suc i) names))
spaced_split [] i d h = absurd (omega (arith, h))
spaced_split (x ∷ xs) zero d h = spaced_first x xs
spaced_split (x ∷ xs) (suc i) d h =
    let below : i < length xs = omega (arith, h) in
    ap (λ (t : List ℕ). codes " " ++ (x ++ t)) (spaced_split xs i d below) ∙ ap (λ (t : List ℕ). codes " " ++ t) (sym (append_assoc x (spaced (take i xs)) _))

pub spaced_more : (names : List (List ℕ)) (i : ℕ) (d : List ℕ) → i < length names → spaced (take (i + 1) names) ≡ spaced (take i names) ++ blank_and (get_or names i d)
spaced_more [] i d h = absurd (omega (arith, h))
spaced_more (x ∷ xs) zero d h = spaced_first x [] ∙ append-nil (blank_and x)
spaced_more (x ∷ xs) (suc i) d h =
    let below : i < length xs = omega (arith, h) in
    rw add-one (ap (λ (t : List ℕ). codes " " ++ (x ++ t)) (ap (λ (k : ℕ). spaced (take k xs)) (sym (add-one i)) ∙ spaced_more xs i d below)
    ∙ ap (λ (t : List ℕ). codes " " ++ t) (sym (append_assoc x (spaced (take i xs)) _)))
