-- Worked examples: the tokens of bytes, a run of them, and what is a clean name and what isn't.
use Rattle.tl_text.proofs.Common.{◌≡◌, ℕ, zero, suc, ◌<◌, ◌≤◌, true, false, List, [], ◌∷◌, codes, get_or, refl, inl, inr, subst, sym, arith, Ok, Err, BadByte, TrailingSlash, is_bad, lines_of, is_blank, IsTokenRun, tokens_at, IsClean}

-- ` ab` `\t` `c `, which stand at the place 5 of a text
abbrev blanks : List ℕ
blanks = 32 ∷ 97 ∷ 98 ∷ 9 ∷ 99 ∷ 32 ∷ []

two_tokens : tokens_at 5 blanks ≡ record { start = 6; end = 8 } ∷ record { start = 9; end = 10 } ∷ []
two_tokens = refl

no_token : tokens_at 5 (32 ∷ 9 ∷ []) ≡ []
no_token = refl

-- the first token is a run, and it isn't one without its last byte, or with the blank before it
run_inside : (i : ℕ) → 1 ≤ i → i < 3 → is_blank (get_or blanks i 0) ≡ false
run_inside zero l m = absurd (omega arith)
run_inside (suc zero) l m = refl
run_inside (suc (suc zero)) l m = refl
run_inside (suc (suc (suc i))) l m = absurd (omega arith)

first_run : IsTokenRun blanks 1 3
first_run = record {
  some = omega arith;
  within = omega arith;
  inside = run_inside;
  before = λ i e. let z : i ≡ 0 = omega arith in subst (λ k. is_blank (get_or blanks k 0) ≡ true) (sym z) refl;
  behind = λ l. refl;
}

too_short : IsTokenRun blanks 1 2 → ⊥
too_short r = let e : is_blank 98 ≡ true = r.behind (omega arith) in let wrong : ⊥ = cc in wrong

with_blank : IsTokenRun blanks 0 3 → ⊥
with_blank r = let e : is_blank 32 ≡ false = r.inside 0 (omega arith) (omega arith) in let wrong : ⊥ = cc in wrong

-- clean names
clean_name : IsClean (codes "a\\b")
clean_name = record {
  bytes = record {
    some = omega arith;
    no_blank = λ b i. elim i [ inl e ↦ subst (λ x. is_blank x ≡ false) (sym e) refl | inr j ↦ elim j [ inl e ↦ subst (λ x. is_blank x ≡ false) (sym e) refl | inr k ↦ elim k [ inl e ↦ subst (λ x. is_blank x ≡ false) (sym e) refl | inr l ↦ absurd l ] ] ];
    no_bad = λ b i. elim i [ inl e ↦ subst (λ x. is_bad x ≡ false) (sym e) refl | inr j ↦ elim j [ inl e ↦ subst (λ x. is_bad x ≡ false) (sym e) refl | inr k ↦ elim k [ inl e ↦ subst (λ x. is_bad x ≡ false) (sym e) refl | inr l ↦ absurd l ] ] ];
    no_comment = λ b i is. elim i [ inl e ↦ (let n : b ≡ 97 = e in absurd (omega arith)) | inr j ↦ elim j [ inl e ↦ (let n : b ≡ 92 = e in absurd (omega arith)) | inr k ↦ elim k [ inl e ↦ (let n : b ≡ 98 = e in absurd (omega arith)) | inr l ↦ absurd l ] ] ];
  };
  no_slash = refl;
}

-- a line feed is a byte that no line may have
feed_is_bad : is_bad 10 ≡ true
feed_is_bad = refl

no_bytes : IsClean [] → ⊥
no_bytes c = let l : 0 < 0 = c.bytes.some in omega arith

blank_within : IsClean (codes "a b") → ⊥
blank_within c = let e : is_blank 32 ≡ false = c.bytes.no_blank 32 (inr (inl refl)) in let wrong : ⊥ = cc in wrong

slash_at_end : IsClean (codes "a\\") → ⊥
slash_at_end c = let e : true ≡ false = c.no_slash in let wrong : ⊥ = cc in wrong

comment_within : IsClean (codes "a#") → ⊥
comment_within c = c.bytes.no_comment 35 (inr (inl refl)) refl

-- A `\` alone on the first line: the line goes on in the second one, and has the first one's number.
slash_alone : lines_of (codes "\\\nab\n") ≡ Ok (record { number = 1; tokens = record { start = 2; end = 4 } ∷ [] } ∷ [])
slash_alone = refl

-- a carriage return at the end of the text, without a line feed, is a byte that no line may have
return_at_end : lines_of (97 ∷ 10 ∷ 98 ∷ 13 ∷ []) ≡ Err (BadByte 2)
return_at_end = refl

return_before_feed : lines_of (97 ∷ 13 ∷ 10 ∷ []) ≡ Ok (record { number = 1; tokens = record { start = 0; end = 1 } ∷ [] } ∷ [])
return_before_feed = refl

-- a token that ends in `\` before a blank
slash_refused : lines_of (codes "a\nb\\ c\n") ≡ Err (TrailingSlash 2)
slash_refused = refl
