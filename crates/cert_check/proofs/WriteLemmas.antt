-- The parts of a certificate's text.
use Rattle.cert_check.proofs.Common.{◌≡◌, ℕ, List, [], ◌∷◌, ◌++◌, map, codes, decimal, refl, sym, ap, ◌∙◌, append_assoc, append-nil, flat_map, map-append, flat_map-append, PathValue, StepValue, CertificateValue, says_depth, says_path, SaidLine, path_said, step_said, steps_said, saying_words, words_text, line_text, cert_text, number_text, path_text, claim_text, step_text, arith}

-- the words of numbers
numbers_text : (ns : List ℕ) → flat_map number_text ns ≡ words_text (map decimal ns)
numbers_text [] = refl
numbers_text (n ∷ ns) = ap (λ t. number_text n ++ t) (numbers_text ns)

pub depth_line : (d : ℕ) → codes "depth" ++ (number_text d ++ 10 ∷ []) ≡ line_text (saying_words (says_depth d))
depth_line d = ap (λ t. codes "depth" ++ (t ++ 10 ∷ [])) (sym (append-nil (number_text d)))

pub claim_line : (s : StepValue) (n h : ℕ) → n ≡ s.node → h ≡ s.claim → codes "claim" ++ (number_text n ++ (number_text h ++ 10 ∷ [])) ≡ claim_text s
claim_line s n h node claim = grind (arith, codes, append_assoc, append-nil)

pub path_line : (p : PathValue) (ns : List ℕ) → ns ≡ p.nodes → codes "path" ++ (flat_map number_text ns ++ 10 ∷ []) ≡ path_text p
path_line p ns same = ap (λ t. codes "path" ++ (t ++ 10 ∷ [])) (numbers_text ns) ∙ ap (λ l. line_text (saying_words (says_path l))) same

pub step_line : (s : StepValue) (ps : List PathValue) → ps ≡ s.paths → claim_text s ++ flat_map path_text ps ≡ step_text s
step_line s ps same = ap (λ l. claim_text s ++ flat_map path_text l) same

-- all lines
paths_text : (ps : List PathValue) → flat_map path_text ps ≡ flat_map line_text (map (λ (l : SaidLine). saying_words l.saying) (map path_said ps))
paths_text [] = refl
paths_text (p ∷ ps) = ap (λ t. path_text p ++ t) (paths_text ps)

steps_text : (ss : List StepValue) → flat_map step_text ss ≡ flat_map line_text (map (λ (l : SaidLine). saying_words l.saying) (steps_said ss))
steps_text [] = refl
steps_text (s ∷ ss) =
    let words : SaidLine → List (List ℕ) = λ l. saying_words l.saying in
    ap (λ t. t ++ flat_map step_text ss) (ap (λ t. claim_text s ++ t) (paths_text s.paths)) ∙ ap (λ t. flat_map line_text (map words (step_said s)) ++ t) (steps_text ss)
    ∙ sym (ap (flat_map line_text) (map-append words (step_said s) (steps_said ss)) ∙ flat_map-append line_text (map words (step_said s)) (map words (steps_said ss)))

pub whole_text : (c : CertificateValue) (d : ℕ) (ss : List StepValue) → d ≡ c.depth → ss ≡ c.steps → line_text (saying_words (says_depth d)) ++ flat_map step_text ss ≡ cert_text c
whole_text c d ss depth steps = grind (arith, steps_text)
