-- What is read can be written: claims are 1 at least, paths have two nodes at least, and numbers fit a word of 32 bits. What is written
-- as the text of a certificate is read back as the same certificate, but for the numbers of its lines.
use Rattle.cert_check.proofs.Common.{◌≡◌, ℕ, suc, ◌+◌, ◌^◌, ◌<◌, ◌≤◌, eqb, leb, List, [], ◌∷◌, ◌++◌, length, map, Some, None, codes, decimal, refl, sym, ap, ◌∙◌, subst, inl, inr, arith, option_and_then, cond-true, cond-false, ne_eqb, le-leb, map-append, length-map, In, In-append, In-left, In-right, from_map, WordsLine, PathValue, StepValue, CertificateValue, CertSaying, says_depth, says_claim, says_path, small, number_of, in_front, numbers_of, saying_by, path_with, said_of, SaidLine, path_said, steps_said, AreSaid, AreLinesOf, saying_words, cert_lines, cert_text, bare_path, bare_step, IsWritablePath, IsWritableStep, IsWritable, ReadsBack, Bool, true, false, cond, Option, bytes_eq, eqb-false, none-some, same_Some, some_else, In-map, words_line, depth_with, claim_with, step_said, IsCertText}
use Rattle.tl_text.specs.Clean.{IsClean}
use Rattle.tl_text.proofs.WordLemmas.{decimal_back, decimal_clean, word_clean}
use Rattle.tl_text.proofs.WrittenLineLemmas.{IsCleanLine, AreCleanLines, numbered, ReadsAgain, reads_again, numbered-append}
use Rattle.tl_text.specs.Decimal.{decimal_of}

-- numbers that are read
small_below : (o : Option ℕ) (n : ℕ) → option_and_then small o ≡ Some n → n < 2 ^ 32
small_below None n e = absurd (none-some n e)
small_below (Some m) n e = grind arith

-- each of them is below 2^32
abbrev pub AreSmall : List ℕ → Type 0
AreSmall ns = (m : ℕ) → In ns m → m < 2 ^ 32

front_small : (o : Option ℕ) (rest : Option (List ℕ)) (ns : List ℕ) → ((n : ℕ) → o ≡ Some n → n < 2 ^ 32) → ((ms : List ℕ) → rest ≡ Some ms → AreSmall ms) → in_front o rest ≡ Some ns → AreSmall ns
front_small (Some n) (Some ms) ns one others e = subst AreSmall (same_Some (n ∷ ms) ns e) (λ m i. elim i [ inl q ↦ subst (λ x. x < 2 ^ 32) (sym q) (one n refl) | inr j ↦ others ms refl m j ])
front_small o rest ns one others e = absurd (none-some ns e)

numbers_small : (words : List (List ℕ)) (ns : List ℕ) → numbers_of words ≡ Some ns → AreSmall ns
numbers_small [] ns e = subst AreSmall (same_Some [] ns e) (λ m i. absurd i)
numbers_small (w ∷ ws) ns e = front_small (number_of w) (numbers_of ws) ns (λ n is. small_below (decimal_of w) n is) (λ ms is. numbers_small ws ms is) e

-- what the forms say
abbrev pub IsReadable : CertSaying → Type 0
IsReadable (says_depth d) = d < 2 ^ 32
IsReadable (says_claim n h) = (n < 2 ^ 32) × (h < 2 ^ 32) × (1 ≤ h)
IsReadable (says_path ns) = (2 ≤ length ns) × AreSmall ns

depth_form : (ns : List ℕ) (s : CertSaying) → AreSmall ns → depth_with ns ≡ Some s → IsReadable s
depth_form (d ∷ []) s h e = subst IsReadable (same_Some (says_depth d) s e) (h d (inl refl))
depth_form ns s h e = absurd (none-some s e)

claim_form : (ns : List ℕ) (s : CertSaying) → AreSmall ns → claim_with ns ≡ Some s → IsReadable s
claim_form (n ∷ c ∷ []) s h e =
    let r = some_else (eqb c 0) (Some (says_claim n c)) s e in
    subst IsReadable (same_Some (says_claim n c) s r.1) (h n (inl refl), h c (inr (inl refl)), (let l : 1 ≤ c = omega (arith, eqb-false c 0 r.0) in l))
claim_form ns s h e = absurd (none-some s e)

path_form : (ns : List ℕ) (s : CertSaying) → AreSmall ns → path_with ns ≡ Some s → IsReadable s
path_form (m ∷ n ∷ ns) s h e = subst IsReadable (same_Some (says_path (m ∷ n ∷ ns)) s e) ((let l : 2 ≤ length (m ∷ n ∷ ns) = omega arith in l), h)
path_form ns s h e = absurd (none-some s e)

-- of a choice that is some value: the one, or the other
of_choice : {A : Type 0} (b : Bool) (x y : Option A) (v : A) (P : Type 0) → (x ≡ Some v → P) → (y ≡ Some v → P) → cond b x y ≡ Some v → P
of_choice true x y v P f g e = f e
of_choice false x y v P f g e = g e

form : (word ns : List ℕ) (s : CertSaying) → AreSmall ns → saying_by word ns ≡ Some s → IsReadable s
form word ns s h e = grind (arith, of_choice, bytes_eq, codes, cond, depth_form, claim_form, path_form, none-some)

of_numbers : (word : List ℕ) (o : Option (List ℕ)) (s : CertSaying) → ((ns : List ℕ) → o ≡ Some ns → AreSmall ns) → option_and_then (saying_by word) o ≡ Some s → IsReadable s
of_numbers word None s h e = absurd (none-some s e)
of_numbers word (Some ns) s h e = form word ns s (h ns refl) e

pub said_readable : (words : List (List ℕ)) (s : CertSaying) → said_of words ≡ Some s → IsReadable s
said_readable [] s e = absurd (none-some s e)
said_readable (w ∷ ws) s e = of_numbers w (numbers_of ws) s (numbers_small ws) e

-- the lines of steps
lines_readable : (lines : List WordsLine) (others : List SaidLine) → AreSaid lines others → (l : SaidLine) → In others l → IsReadable l.saying
lines_readable [] (x ∷ xs) are l i = absurd are
lines_readable (k ∷ ks) (x ∷ xs) are l (inl e) = subst (λ (y : SaidLine). IsReadable y.saying) (sym e) (said_readable k.words x.saying are.1)
lines_readable (k ∷ ks) (x ∷ xs) are l (inr i) = lines_readable ks xs are.2 l i
lines_readable lines [] are l i = absurd i

step_lines : (ss : List StepValue) (s : StepValue) (l : SaidLine) → In ss s → In (step_said s) l → In (steps_said ss) l
step_lines [] s l i j = absurd i
step_lines (t ∷ ts) s l (inl e) j = In-left (step_said t) (steps_said ts) l (subst (λ (x : StepValue). In (step_said x) l) e j)
step_lines (t ∷ ts) s l (inr i) j = In-right (step_said t) (steps_said ts) l (step_lines ts s l i j)

step_writable : (s : StepValue) → ((l : SaidLine) → In (step_said s) l → IsReadable l.saying) → IsWritableStep s
step_writable s h =
    let claim : (s.node < 2 ^ 32) × (s.claim < 2 ^ 32) × (1 ≤ s.claim) = h (record { number = s.line; saying = says_claim s.node s.claim }) (inl refl) in
    record {
      claim = claim.2;
      small_node = claim.0;
      small_claim = claim.1;
      paths = λ p i. (let path : (2 ≤ length p.nodes) × AreSmall p.nodes = h (path_said p) (inr (In-map path_said s.paths p i)) in record { nodes = path.0; small = path.1 });
    }

lines_writable : (lines : List WordsLine) (c : CertificateValue) → AreLinesOf lines c → IsWritable c
lines_writable [] c are = absurd are
lines_writable (l ∷ ls) c are = record {
  small = said_readable l.words (says_depth c.depth) are.0;
  steps = λ s i. step_writable s (λ x j. lines_readable ls (steps_said c.steps) are.1 x (step_lines c.steps s x i j));
}

-- A certificate that a text is can be written.
pub text_writable : (text : List ℕ) (c : CertificateValue) → IsCertText text c → IsWritable c
text_writable text c t = lines_writable (map (words_line text) t.lines) c t.are

-- each is said by its words
number_back : (n : ℕ) → n < 2 ^ 32 → number_of (decimal n) ≡ Some n
number_back n l = ap (option_and_then small) (decimal_back n (omega arith)) ∙ cond-true (leb n 4294967295) (Some n) None (le-leb n 4294967295 (omega arith))

numbers_back : (ns : List ℕ) → ((m : ℕ) → In ns m → m < 2 ^ 32) → numbers_of (map decimal ns) ≡ Some ns
numbers_back [] h = refl
numbers_back (n ∷ ns) h = ap (λ o. in_front o (numbers_of (map decimal ns))) (number_back n (h n (inl refl))) ∙ ap (in_front (Some n)) (numbers_back ns (λ m i. h m (inr i)))

path_back : (ns : List ℕ) → 2 ≤ length ns → path_with ns ≡ Some (says_path ns)
path_back (m ∷ n ∷ ns) l = refl
path_back ns l = absurd (omega arith)

says_back : (s : CertSaying) → IsReadable s → said_of (saying_words s) ≡ Some s
says_back (says_depth d) h = ap (λ o. option_and_then (saying_by (codes "depth")) (in_front o (Some []))) (number_back d h)
says_back (says_claim n h) f = grind (arith, codes, decimal, number_back, cond-false, eqb, ne_eqb)
says_back (says_path ns) f = ap (option_and_then (saying_by (codes "path"))) (numbers_back ns f.1) ∙ path_back ns f.0

-- and these are clean
words_clean : (first : List ℕ) (ns : List ℕ) → IsClean first → ((m : ℕ) → In ns m → m < 2 ^ 32) → IsCleanLine (first ∷ map decimal ns)
words_clean first ns clean h = λ w i. elim i [
  | inl e ↦ subst IsClean (sym e) clean
  | inr j ↦ (let r = from_map decimal ns w j in let l : r.0 < 2 ^ 32 = h r.0 r.1 in subst IsClean (sym r.2) (decimal_clean r.0 (omega arith)))
]

small_more : (n : ℕ) (ns : List ℕ) → n < 2 ^ 32 → ((m : ℕ) → In ns m → m < 2 ^ 32) → (m : ℕ) → In (n ∷ ns) m → m < 2 ^ 32
small_more n ns l h m i = elim i [ inl e ↦ subst (λ x. x < 2 ^ 32) (sym e) l | inr j ↦ h m j ]

clean_line : (s : CertSaying) → IsReadable s → IsCleanLine (saying_words s)
clean_line (says_depth d) f = words_clean (codes "depth") (d ∷ []) (word_clean (codes "depth") (omega arith) refl) (small_more d [] f (λ m i. absurd i))
clean_line (says_claim n h) f = words_clean (codes "claim") (n ∷ h ∷ []) (word_clean (codes "claim") (omega arith) refl) (small_more n (h ∷ []) f.0 (small_more h [] f.1 (λ m i. absurd i)))
clean_line (says_path ns) f = words_clean (codes "path") ns (word_clean (codes "path") (omega arith) refl) f.1

-- the lines of writable steps
said_words : SaidLine → List (List ℕ)
said_words l = saying_words l.saying

AreFormed : List SaidLine → Type 0
AreFormed ls = (l : SaidLine) → In ls l → IsReadable l.saying

paths_formed : (ps : List PathValue) → ((p : PathValue) → In ps p → IsWritablePath p) → AreFormed (map path_said ps)
unfolding AreFormed
paths_formed ps w l i = let r = from_map path_said ps l i in subst (λ (x : SaidLine). IsReadable x.saying) (sym r.2) ((w r.0 r.1).nodes, (w r.0 r.1).small)

steps_formed : (ss : List StepValue) → ((s : StepValue) → In ss s → IsWritableStep s) → AreFormed (steps_said ss)
unfolding AreFormed
steps_formed [] w l i = absurd i
steps_formed (s ∷ ss) w l (inl e) = let f = w s (inl refl) in subst (λ (x : SaidLine). IsReadable x.saying) (sym e) (f.small_node, f.small_claim, f.claim)
steps_formed (s ∷ ss) w l (inr i) = elim (In-append (map path_said s.paths) (steps_said ss) l i) [
  | inl j ↦ paths_formed s.paths (w s (inl refl)).paths l j
  | inr j ↦ steps_formed ss (λ t k. w t (inr k)) l j
]

said_clean : (ls : List SaidLine) → AreFormed ls → (words : List (List ℕ)) → In (map said_words ls) words → IsCleanLine words
unfolding said_words AreFormed
said_clean ls f words i = let r = from_map said_words ls words i in subst IsCleanLine (sym r.2) (clean_line r.0.saying (f r.0 r.1))

-- the steps with the numbers of the lines that they are written to, the first of which is this
abbrev placed_paths : ℕ → List PathValue → List PathValue
placed_paths n [] = []
placed_paths n (p ∷ ps) = record { line = n; nodes = p.nodes } ∷ placed_paths (suc n) ps

abbrev placed_steps : ℕ → List StepValue → List StepValue
placed_steps n [] = []
placed_steps n (s ∷ ss) = record { line = n; node = s.node; claim = s.claim; paths = placed_paths (suc n) s.paths } ∷ placed_steps (suc n + length s.paths) ss

said_append : (ks ls : List WordsLine) (xs ys : List SaidLine) → AreSaid ks xs → AreSaid ls ys → AreSaid (ks ++ ls) (xs ++ ys)
said_append [] ls [] ys a b = b
said_append (k ∷ ks) ls (x ∷ xs) ys a b = (a.0, a.1, said_append ks ls xs ys a.2 b)
said_append ks ls xs ys a b = absurd a

paths_back : (n : ℕ) (ps : List PathValue) → AreFormed (map path_said ps) → AreSaid (numbered n (map said_words (map path_said ps))) (map path_said (placed_paths n ps))
unfolding said_words AreFormed
paths_back n [] f = tt
paths_back n (p ∷ ps) f = (refl, says_back (says_path p.nodes) (f (path_said p) (inl refl)), paths_back (suc n) ps (λ l i. f l (inr i)))

steps_back : (n : ℕ) (ss : List StepValue) → AreFormed (steps_said ss) → AreSaid (numbered n (map said_words (steps_said ss))) (steps_said (placed_steps n ss))
unfolding said_words AreFormed
steps_back n [] f = tt
steps_back n (s ∷ ss) f =
    let paths : AreSaid (numbered (suc n) (map said_words (map path_said s.paths))) (map path_said (placed_paths (suc n) s.paths)) = paths_back (suc n) s.paths (λ l i. f l (inr (In-left (map path_said s.paths) (steps_said ss) l i))) in
    let others = steps_back (suc n + length s.paths) ss (λ l i. f l (inr (In-right (map path_said s.paths) (steps_said ss) l i))) in
    let count : suc n + length (map said_words (map path_said s.paths)) ≡ suc n + length s.paths = ap (λ k. suc n + k) (length-map (map path_said s.paths) said_words ∙ length-map s.paths path_said) in
    let shape : numbered (suc n) (map said_words (map path_said s.paths ++ steps_said ss)) ≡ numbered (suc n) (map said_words (map path_said s.paths)) ++ numbered (suc n + length s.paths) (map said_words (steps_said ss)) =
    ap (numbered (suc n)) (map-append said_words (map path_said s.paths) (steps_said ss)) ∙ numbered-append (suc n) (map said_words (map path_said s.paths)) (map said_words (steps_said ss))
    ∙ ap (λ k. numbered (suc n) (map said_words (map path_said s.paths)) ++ numbered k (map said_words (steps_said ss))) count in (
      refl,
      says_back (says_claim s.node s.claim) (f (record { number = s.line; saying = says_claim s.node s.claim }) (inl refl)),
      subst (λ ls. AreSaid ls (map path_said (placed_paths (suc n) s.paths) ++ steps_said (placed_steps (suc n + length s.paths) ss))) (sym shape) (said_append (numbered (suc n) (map said_words (map path_said s.paths))) (numbered (suc n + length s.paths) (map said_words (steps_said ss)))
          (map path_said (placed_paths (suc n) s.paths)) (steps_said (placed_steps (suc n + length s.paths) ss)) paths others),
    )

-- the same steps but for their lines
bare_paths : (n : ℕ) (ps : List PathValue) → map bare_path (placed_paths n ps) ≡ map bare_path ps
bare_paths n [] = refl
bare_paths n (p ∷ ps) = ap (λ l. bare_path p ∷ l) (bare_paths (suc n) ps)

bare_steps : (n : ℕ) (ss : List StepValue) → map bare_step (placed_steps n ss) ≡ map bare_step ss
bare_steps n [] = refl
bare_steps n (s ∷ ss) = grind (arith, placed_steps, bare_paths, bare_steps (suc n + length s.paths) ss)

-- What is written is read back.
pub reads_back : (c : CertificateValue) → IsWritable c → ReadsBack (cert_text c) c
unfolding said_words
reads_back c w =
    let clean : AreCleanLines (cert_lines c) = λ words i. elim i [ inl e ↦ subst IsCleanLine (sym e) (clean_line (says_depth c.depth) w.small) | inr j ↦ said_clean (steps_said c.steps) (steps_formed c.steps w.steps) words j ] in
    let again : ReadsAgain (cert_lines c) = reads_again (cert_lines c) clean in
    record {
      read = record { depth = c.depth; steps = placed_steps 2 c.steps };
      is = record {
        lines = again.logical;
        lines_are = again.are;
        are = subst (λ ls. AreLinesOf ls (record { depth = c.depth; steps = placed_steps 2 c.steps })) (sym again.words) (says_back (says_depth c.depth) w.small, steps_back 2 c.steps (steps_formed c.steps w.steps));
      };
      same = ap (λ ss. record { depth = c.depth; steps = ss }) (bare_steps 2 c.steps);
    }
