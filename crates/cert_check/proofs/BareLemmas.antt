-- The numbers of its lines have no part in a certificate's validity, nor in the text that it is written as.
use Rattle.cert_check.proofs.Common.{◌≡◌, ℕ, ◌==◌, if◌then◌else◌, length, List, [], ◌∷◌, map, Some, slice_get, refl, sym, ap, ◌∙◌, subst, flat_map, option_map, fun_ext, length-map, map-append, slice_get-map, Aig, IsAnd, In, IsAscending, In-map, from_map, In-get, place_in, mapped_at, path_count, PathValue, StepValue, CertificateValue, IsPath, claim_of, IsJustified, IsReached, IsValid, says_depth, SaidLine, path_said, steps_said, saying_words, line_text, cert_text, bare_path, bare_step, bare, arith}

claim_bare : (ss : List StepValue) (n : ℕ) → claim_of (map bare_step ss) n ≡ claim_of ss n
claim_bare [] n = refl
claim_bare (s ∷ ss) n = ap (λ r. if s.node == n then s.claim else r) (claim_bare ss n)

same_nodes : (ss : List StepValue) → map (λ (s : StepValue). s.node) (map bare_step ss) ≡ map (λ (s : StepValue). s.node) ss
same_nodes [] = refl
same_nodes (s ∷ ss) = ap (λ l. s.node ∷ l) (same_nodes ss)

-- of two lists that are the same but for lines: a step of the first is one of the second, and so is a path
pub same_step : (ss ts : List StepValue) → map bare_step ss ≡ map bare_step ts → (s : StepValue) → In ss s → (t : StepValue) × In ts t × (bare_step s ≡ bare_step t)
same_step ss ts same s i = from_map bare_step ts (bare_step s) (subst (λ us. In us (bare_step s)) same (In-map bare_step ss s i))

pub same_path : (ps qs : List PathValue) → map bare_path ps ≡ map bare_path qs → (i : ℕ) (p : PathValue) → slice_get ps i ≡ Some p → (q : PathValue) × (slice_get qs i ≡ Some q) × (p.nodes ≡ q.nodes)
same_path ps qs same i p e =
    let r = mapped_at bare_path qs i (bare_path p) (ap (λ l. slice_get l i) (sym same) ∙ (slice_get-map bare_path ps i ∙ ap (λ o. option_map bare_path o) e)) in (r.0, r.1, ap (λ (x : PathValue). x.nodes) r.2)

same_justified : (g : Aig) (k : ℕ) (claim : ℕ → ℕ) (s t : StepValue) → bare_step s ≡ bare_step t → IsJustified g k claim s → IsJustified g k claim t
same_justified g k claim s t same j =
    let node : s.node ≡ t.node = ap (λ (x : StepValue). x.node) same in
    let paths : map bare_path t.paths ≡ map bare_path s.paths = ap (λ (x : StepValue). x.paths) (sym same) in
    record {
      count = sym (length-map t.paths bare_path) ∙ (ap length paths ∙ (length-map s.paths bare_path ∙ (j.count ∙ ap (path_count k) (ap (λ (x : StepValue). x.claim) same))));
      paths = λ p i.
          let at = place_in t.paths p i in
          let q = same_path t.paths s.paths paths at.0 p at.1 in subst (λ n. IsPath g n p.nodes) node (subst (λ ns. IsPath g s.node ns) (sym q.2) (j.paths q.0 (In-get s.paths at.0 q.0 q.1)));
      apart = λ a b m p q l e f x y n. grind (arith, same_path);
    }

-- So a certificate is valid where another one is that differs from it in these numbers alone.
pub same_valid : (g : Aig) (roots : List ℕ) (k : ℕ) (c d : CertificateValue) → bare c ≡ bare d → IsValid g roots k c → IsValid g roots k d
same_valid g roots k c d same v =
    let steps : map bare_step d.steps ≡ map bare_step c.steps = ap (λ (x : CertificateValue). x.steps) (sym same) in
    let claims : claim_of c.steps ≡ claim_of d.steps = fun_ext (λ n. sym (claim_bare c.steps n) ∙ (ap (λ ss. claim_of ss n) (sym steps) ∙ claim_bare d.steps n)) in
    record {
      ascending = subst (λ ns. IsAscending ns) (sym (same_nodes c.steps) ∙ (ap (map (λ (s : StepValue). s.node)) (sym steps) ∙ same_nodes d.steps)) v.ascending;
      nodes = λ s i. let r = same_step d.steps c.steps steps s i in subst (IsAnd g) (ap (λ (x : StepValue). x.node) (sym r.2)) (v.nodes r.0 r.1);
      justified = λ s i. let r = same_step d.steps c.steps steps s i in subst (λ f. IsJustified g k f s) claims (same_justified g k (claim_of c.steps) r.0 s (sym r.2) (v.justified r.0 r.1));
      reached = subst (λ f. IsReached g roots f d.depth) claims (subst (IsReached g roots (claim_of c.steps)) (ap (λ (x : CertificateValue). x.depth) same) v.reached);
    }

-- the words of the lines
abbrev words_said : List SaidLine → List (List (List ℕ))
words_said ls = map (λ (l : SaidLine). saying_words l.saying) ls

path_words : (ps : List PathValue) → words_said (map path_said (map bare_path ps)) ≡ words_said (map path_said ps)
path_words [] = refl
path_words (p ∷ ps) = ap (λ ws. saying_words (path_said p).saying ∷ ws) (path_words ps)

step_words : (ss : List StepValue) → words_said (steps_said (map bare_step ss)) ≡ words_said (steps_said ss)
step_words [] = refl
step_words (s ∷ ss) = simp (map-append, path_words, step_words ss)

text_bare : (c : CertificateValue) → cert_text (bare c) ≡ cert_text c
text_bare c = ap (λ ws. flat_map line_text (saying_words (says_depth c.depth) ∷ ws)) (step_words c.steps)

-- So the same text is written.
pub same_text : (c d : CertificateValue) → bare c ≡ bare d → cert_text c ≡ cert_text d
same_text c d same = sym (text_bare c) ∙ (ap cert_text same ∙ text_bare d)
