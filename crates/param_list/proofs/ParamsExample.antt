-- Worked examples: a list of two parameters over a small circuit, what is left of the inputs, and each refusal.
use Rattle.param_list.proofs.Common.{◌≡◌, ℕ, zero, suc, ◌<◌, true, false, List, [], ◌∷◌, codes, map, Option, Some, None, Ok, refl, sym, ap, ◌∙◌, subst, inl, inr, arith, slice_get, replicate, none-some, same_Some, In, LineValue, WordsLine, words_line, FlatValue, Param, ParErr, Malformed, Parameters, NotInput, IsClock, Repeated, param_names, param_inits, regular_names, at_line, line_refusal, refusal_at, IsParamOf, IsParamsText, IsParamsFault, AreRegularPlaces}
use Rattle.tl_text.specs.Lines.{lines_of}

-- a circuit with the inputs `a`, `b` and `p` and the clock net `c`
abbrev flat : FlatValue
flat = record { model = codes "m"; inputs = codes "a" ∷ codes "b" ∷ codes "p" ∷ []; clocks = codes "c" ∷ []; control = None; outputs = []; covers = []; latches = []; order = []; under = 0 }

-- `p` is 1 and `a` is 0
abbrev text : List ℕ
text = codes "p 1 # turned\n\na \\\n 0\n"

abbrev params : List Param
params = record { name = codes "p"; input = 2; init = true } ∷ record { name = codes "a"; input = 0; init = false } ∷ []

abbrev lines : List LineValue
lines = record { number = 1; tokens = record { start = 0; end = 1 } ∷ record { start = 2; end = 3 } ∷ [] } ∷ record { number = 3; tokens = record { start = 14; end = 15 } ∷ record { start = 19; end = 20 } ∷ [] } ∷ []

text_lines : lines_of text ≡ Ok lines
text_lines = refl

abbrev said : List WordsLine
said = map (words_line text) lines

none_refused : (i : ℕ) → refusal_at flat.inputs flat.clocks said i ≡ None
none_refused zero = refl
none_refused (suc zero) = refl
none_refused (suc (suc i)) = refl

each_param : (i : ℕ) (line : WordsLine) (p : Param) → slice_get said i ≡ Some line → slice_get params i ≡ Some p → IsParamOf flat.inputs line p
each_param zero line p e f = subst (λ l. IsParamOf flat.inputs l p) (same_Some _ line e) (subst (IsParamOf flat.inputs (record { number = 1; words = codes "p" ∷ codes "1" ∷ [] })) (same_Some _ p f) (record { says = refl; input = refl }))
each_param (suc zero) line p e f = subst (λ l. IsParamOf flat.inputs l p) (same_Some _ line e) (subst (IsParamOf flat.inputs (record { number = 3; words = codes "a" ∷ codes "0" ∷ [] })) (same_Some _ p f) (record { says = refl; input = refl }))
each_param (suc (suc i)) line p e f = absurd (none-some line e)

two_params : IsParamsText flat text params
two_params = record { lines = lines; lines_are = refl; are = record { no_refusal = none_refused; count = refl; each = each_param } }

two_names : param_names params ≡ codes "p" ∷ codes "a" ∷ []
two_names = refl

two_values : param_inits params ≡ true ∷ false ∷ []
two_values = refl

-- what is left: the input `b`, at the place 1
left_name : regular_names flat params ≡ codes "b" ∷ []
left_name = refl

left_place : AreRegularPlaces flat params (1 ∷ [])
left_place = record {
  ascending = (λ n i. absurd i, tt);
  within = λ i j. elim j [ inl e ↦ (let n : i ≡ 1 = e in omega arith) | inr k ↦ absurd k ];
  free = λ i j p k e. elim j [
    | inl f ↦ elim k [
      | inl s ↦ (let n : 2 ≡ 1 = sym (ap (λ (q : Param). q.input) s) ∙ e ∙ f in absurd (omega arith))
      | inr k' ↦ elim k' [ inl s ↦ (let n : 0 ≡ 1 = sym (ap (λ (q : Param). q.input) s) ∙ e ∙ f in absurd (omega arith)) | inr o ↦ absurd o ]
    ]
    | inr o ↦ absurd o
  ];
  all = left_all;
} where
  left_all : (i : ℕ) → i < 3 → ((p : Param) → In params p → p.input ≡ i → ⊥) → In (1 ∷ []) i
  left_all zero l free = absurd (free (record { name = codes "a"; input = 0; init = false }) (inr (inl refl)) refl)
  left_all (suc zero) l free = inl refl
  left_all (suc (suc zero)) l free = absurd (free (record { name = codes "p"; input = 2; init = true }) (inl refl) refl)
  left_all (suc (suc (suc i))) l free = absurd (omega arith)

-- the refusal of line 7 by its words, behind a line that says `p`
abbrev refusal : List (List ℕ) → Option ParErr
refusal words = line_refusal flat.inputs flat.clocks (codes "p" ∷ []) (record { number = 7; words = words })

-- P1: one token, three, or another value
malformed : map refusal ((codes "a" ∷ []) ∷ (codes "a" ∷ codes "0" ∷ codes "1" ∷ []) ∷ (codes "a" ∷ codes "2" ∷ []) ∷ []) ≡ replicate 3 (Some (Malformed 7))
malformed = refl

-- P2, P3 and P4: no input, the clock net, and the name that stood earlier
other_names : map refusal ((codes "d" ∷ codes "0" ∷ []) ∷ (codes "c" ∷ codes "0" ∷ []) ∷ (codes "p" ∷ codes "0" ∷ []) ∷ (codes "a" ∷ codes "1" ∷ []) ∷ [])
    ≡ Some (NotInput 7 (codes "d")) ∷ Some (IsClock 7 (codes "c")) ∷ Some (Repeated 7 (codes "p")) ∷ None ∷ []
other_names = refl

-- L8: a name of 65,536 bytes, though it is no input, and a line behind 65,535 names; one name fewer is taken
too_long : refusal (replicate 65536 120 ∷ codes "1" ∷ []) ≡ Some (Parameters 7)
too_long = refl

behind_names : map (λ n. line_refusal flat.inputs flat.clocks (replicate n (codes "x")) (record { number = 7; words = codes "a" ∷ codes "1" ∷ [] })) (65535 ∷ 65534 ∷ []) ≡ Some (Parameters 7) ∷ None ∷ []
behind_names = refl

-- the second line is the first that has a refusal
abbrev repeated : List ℕ
repeated = codes "a 0\na 1\nc\n"

abbrev three_lines : List LineValue
three_lines =
    record { number = 1; tokens = record { start = 0; end = 1 } ∷ record { start = 2; end = 3 } ∷ [] }
    ∷ record { number = 2; tokens = record { start = 4; end = 5 } ∷ record { start = 6; end = 7 } ∷ [] }
    ∷ record { number = 3; tokens = record { start = 8; end = 9 } ∷ [] } ∷ []

second_refused : IsParamsFault flat repeated (Repeated 2 (codes "a"))
second_refused = at_line three_lines refl (record {
  place = 1;
  is = refl;
  none_before = λ i l. let z : i ≡ 0 = omega arith in subst (λ k. refusal_at flat.inputs flat.clocks (map (words_line repeated) three_lines) k ≡ None) (sym z) refl;
})
