-- The tokens of bytes are exactly their runs.
use Rattle.tl_text.proofs.Common.{◌≡◌, ℕ, zero, suc, ◌+◌, ◌<◌, ◌≤◌, Bool, true, false, List, [], ◌∷◌, length, map, get_or, refl, sym, ap, subst, ◌∙◌, inl, inr, arith, not-true, not-false, In, In-map, choose, Token, is_blank, IsTokenRun, begins_run, lengthened, tokens_at, IsRunAt, AreRuns, rules}

abbrev token_of : ℕ → ℕ → Token
token_of start end = record { start = start; end = end }

moved : (tokens : List Token) (a b c d : ℕ) → a ≡ c → b ≡ d → In tokens (token_of a b) → In tokens (token_of c d)
moved tokens a b c d e f i = subst (λ x. In tokens (token_of x d)) e (subst (λ y. In tokens (token_of a y)) f i)

true_false : {A : Type 0} (b : Bool) → b ≡ true → b ≡ false → A
true_false b t f = absurd (let e : ⊥ = cc in e)

behind_inside : (b : ℕ) (bs : List ℕ) (first past : ℕ) → IsTokenRun bs first past → (i : ℕ) → suc first ≤ i → i < suc past → is_blank (get_or (b ∷ bs) i 0) ≡ false
behind_inside b bs first past r zero l m = absurd (omega arith)
behind_inside b bs first past r (suc i) l m = r.inside i (omega arith) (omega arith)

behind_before : (b : ℕ) (bs : List ℕ) (first past : ℕ) → (first ≡ 0 → is_blank b ≡ true) → IsTokenRun bs first past → (i : ℕ) → i + 1 ≡ suc first → is_blank (get_or (b ∷ bs) i 0) ≡ true
behind_before b bs first past blank r zero e = blank (omega arith)
behind_before b bs first past blank r (suc i) e = r.before i (omega arith)

-- a run behind one more byte
behind_byte : (b : ℕ) (bs : List ℕ) (first past : ℕ) → (first ≡ 0 → is_blank b ≡ true) → IsTokenRun bs first past → IsTokenRun (b ∷ bs) (suc first) (suc past)
behind_byte b bs first past blank r = search (rules, behind_inside, behind_before)

-- and without it
without_byte : (b : ℕ) (bs : List ℕ) (first past : ℕ) → IsTokenRun (b ∷ bs) (suc first) (suc past) → IsTokenRun bs first past
without_byte b bs first past r = record {
  some = omega arith;
  within = omega arith;
  inside = λ i l m. r.inside (suc i) (omega arith) (omega arith);
  before = λ i e. r.before (suc i) (omega arith);
  behind = λ l. r.behind (omega arith);
}

-- a run that begins one byte earlier
lengthened_inside : (b : ℕ) (bs : List ℕ) (past : ℕ) → is_blank b ≡ false → IsTokenRun bs 0 past → (i : ℕ) → 0 ≤ i → i < suc past → is_blank (get_or (b ∷ bs) i 0) ≡ false
lengthened_inside b bs past dark r zero l m = dark
lengthened_inside b bs past dark r (suc i) l m = r.inside i (omega arith) (omega arith)

lengthen_run : (b : ℕ) (bs : List ℕ) (first past : ℕ) → is_blank b ≡ false → first ≡ 0 → IsTokenRun bs first past → IsTokenRun (b ∷ bs) 0 (suc past)
lengthen_run b bs first past dark e given = grind arith

begins : (bs : List ℕ) → begins_run bs ≡ true → is_blank (get_or bs 0 0) ≡ false
begins [] h = absurd (let e : ⊥ = cc in e)
begins (b ∷ bs) h = not-true (is_blank b) h

begins_some : (bs : List ℕ) → begins_run bs ≡ true → 0 < length bs
begins_some [] h = absurd (let e : ⊥ = cc in e)
begins_some (b ∷ bs) h = omega arith

stops : (bs : List ℕ) → begins_run bs ≡ false → 0 < length bs → is_blank (get_or bs 0 0) ≡ true
stops [] h l = absurd (omega arith)
stops (b ∷ bs) h l = not-false (is_blank b) h

no_first_run : {A : Type 0} (bs : List ℕ) (first past : ℕ) → begins_run bs ≡ false → IsTokenRun bs first past → first ≡ 0 → A
no_first_run bs first past ends given e = grind arith

shorten_run : (b : ℕ) (bs : List ℕ) (past : ℕ) → begins_run bs ≡ true → IsTokenRun (b ∷ bs) 0 (suc past) → IsTokenRun bs 0 past
shorten_run b bs zero runs r = let s : 0 < length bs = begins_some bs runs in true_false (is_blank (get_or bs 0 0)) (r.behind (omega arith)) (begins bs runs)
shorten_run b bs (suc past) runs r = record {
  some = omega arith;
  within = omega arith;
  inside = λ i l m. r.inside (suc i) (omega arith) (omega arith);
  before = λ i e. absurd (omega arith);
  behind = λ l. r.behind (omega arith);
}

starts_above : (at : ℕ) (tokens : List Token) → ((token : Token) → In tokens token → at < token.start) → (n : ℕ) → In (map (λ token. token.start) tokens) n → at < n
starts_above at [] h n i = absurd i
starts_above at (t ∷ ts) h n (inl e) = subst (λ m. at < m) (sym e) (h t (inl refl))
starts_above at (t ∷ ts) h n (inr i) = starts_above at ts (λ u j. h u (inr j)) n i

-- a run one place on
module _ (at b : ℕ) (bs : List ℕ) where
  further : (token : Token) → (r : IsRunAt (at + 1) bs token) → (r.first ≡ 0 → is_blank b ≡ true) → IsRunAt at (b ∷ bs) token
  further token r blank = record {
    first = suc r.first;
    past = suc r.past;
    run = behind_byte b bs r.first r.past blank r.run;
    start = omega (arith, r.start);
    end = omega (arith, r.end);
  }

  -- a blank before bytes is in ends run
  all_behind_blank : (tokens : List Token) → is_blank b ≡ true → AreRuns (at + 1) bs tokens → (first past : ℕ) → IsTokenRun (b ∷ bs) first past → In tokens (token_of (at + first) (at + past))
  all_behind_blank tokens blank h zero past r = true_false (is_blank b) blank (r.inside 0 (omega arith) r.some)
  all_behind_blank tokens blank h (suc first) zero r = absurd (omega arith)
  all_behind_blank tokens blank h (suc first) (suc past) r =
      moved tokens (at + 1 + first) (at + 1 + past) (at + suc first) (at + suc past) (omega arith) (omega arith) (h.all first past (without_byte b bs first past r))

  behind_blank : (tokens : List Token) → is_blank b ≡ true → AreRuns (at + 1) bs tokens → AreRuns at (b ∷ bs) tokens
  behind_blank tokens blank h = record {
    only = λ token i. further token (h.only token i) (λ _. blank);
    all = all_behind_blank tokens blank h;
    ascending = h.ascending;
  }

  -- a byte that is a run alone
  one_run : is_blank b ≡ false → begins_run bs ≡ false → IsTokenRun (b ∷ bs) 0 1
  one_run dark ends = search (rules, stops)

  only_one : (tokens : List Token) → is_blank b ≡ false → begins_run bs ≡ false → AreRuns (at + 1) bs tokens
      → (token : Token) → In (token_of at (at + 1) ∷ tokens) token → IsRunAt at (b ∷ bs) token
  only_one tokens dark ends h token (inl e) = search (rules, one_run)
  only_one tokens dark ends h token (inr i) =
      let r : IsRunAt (at + 1) bs token = h.only token i in further token r (no_first_run bs r.first r.past ends r.run)

  all_one : (tokens : List Token) → is_blank b ≡ false → begins_run bs ≡ false → AreRuns (at + 1) bs tokens
      → (first past : ℕ) → IsTokenRun (b ∷ bs) first past → In (token_of at (at + 1) ∷ tokens) (token_of (at + first) (at + past))
  all_one tokens dark ends h zero (suc zero) r = inl (ap (λ n. token_of n (at + 1)) (omega arith))
  all_one tokens dark ends h zero (suc (suc past)) r = true_false (is_blank (get_or bs 0 0)) (stops bs ends (omega arith)) (r.inside 1 (omega arith) (omega arith))
  all_one tokens dark ends h (suc first) (suc past) r =
      inr (moved tokens (at + 1 + first) (at + 1 + past) (at + suc first) (at + suc past) (omega arith) (omega arith) (h.all first past (without_byte b bs first past r)))
  all_one tokens dark ends h first zero r = absurd (omega arith)

  above : (tokens : List Token) → AreRuns (at + 1) bs tokens → (token : Token) → In tokens token → at < token.start
  above tokens h token i = let r : IsRunAt (at + 1) bs token = h.only token i in omega (arith, r.start)

  alone : (tokens : List Token) → is_blank b ≡ false → begins_run bs ≡ false → AreRuns (at + 1) bs tokens → AreRuns at (b ∷ bs) (token_of at (at + 1) ∷ tokens)
  alone tokens dark ends h = record {
    only = only_one tokens dark ends h;
    all = all_one tokens dark ends h;
    ascending = (starts_above at tokens (above tokens h), h.ascending);
  }

  -- a byte before a run
  only_longer : (t : Token) (ts : List Token) → t.start ≡ at + 1 → is_blank b ≡ false → AreRuns (at + 1) bs (t ∷ ts)
      → (token : Token) → In (token_of at t.end ∷ ts) token → IsRunAt at (b ∷ bs) token
  only_longer t ts here dark h token (inl e) =
      let r : IsRunAt (at + 1) bs t = h.only t (inl refl) in record {
        first = 0;
        past = suc r.past;
        run = lengthen_run b bs r.first r.past dark (omega (arith, r.start)) r.run;
        start = ap (λ t. t.start) e ∙ omega arith;
        end = ap (λ t. t.end) e ∙ omega (arith, r.end);
      }
  only_longer t ts here dark h token (inr i) =
      further token (h.only token (inr i)) (λ z. absurd (omega (arith, h.ascending.0 token.start (In-map (λ t. t.start) ts token i), (h.only token (inr i)).start)))

  first_longer : (t : Token) (ts : List Token) (past : ℕ) → t.start ≡ at + 1 → AreRuns (at + 1) bs (t ∷ ts) → In (t ∷ ts) (token_of (at + 1 + 0) (at + 1 + past)) → In (token_of at t.end ∷ ts) (token_of (at + 0) (at + suc past))
  first_longer t ts past here h (inl e) = grind arith
  first_longer t ts past here h (inr i) = absurd (omega (arith, h.ascending.0 (at + 1 + 0) (In-map (λ t. t.start) ts _ i)))

  later_longer : (t : Token) (ts : List Token) (first past : ℕ) → t.start ≡ at + 1 → In (t ∷ ts) (token_of (at + 1 + suc first) (at + 1 + past)) → In (token_of at t.end ∷ ts) (token_of (at + suc (suc first)) (at + suc past))
  later_longer t ts first past here (inl e) = let f : at + 1 + suc first ≡ t.start = ap (λ t. t.start) e in absurd (omega arith)
  later_longer t ts first past here (inr i) = inr (moved ts _ _ (at + suc (suc first)) (at + suc past) (omega arith) (omega arith) i)

  all_longer : (t : Token) (ts : List Token) → t.start ≡ at + 1 → is_blank b ≡ false → begins_run bs ≡ true → AreRuns (at + 1) bs (t ∷ ts)
      → (first past : ℕ) → IsTokenRun (b ∷ bs) first past → In (token_of at t.end ∷ ts) (token_of (at + first) (at + past))
  all_longer t ts here dark runs h first zero r = absurd (omega arith)
  all_longer t ts here dark runs h zero (suc past) r = first_longer t ts past here h (h.all 0 past (shorten_run b bs past runs r))
  all_longer t ts here dark runs h (suc zero) (suc past) r = true_false (is_blank b) (r.before 0 (omega arith)) dark
  all_longer t ts here dark runs h (suc (suc first)) (suc past) r = later_longer t ts first past here (h.all (suc first) past (without_byte b bs (suc first) past r))

  longer : (t : Token) (ts : List Token) → t.start ≡ at + 1 → is_blank b ≡ false → begins_run bs ≡ true → AreRuns (at + 1) bs (t ∷ ts) → AreRuns at (b ∷ bs) (token_of at t.end ∷ ts)
  longer t ts here dark runs h = record {
    only = only_longer t ts here dark h;
    all = all_longer t ts here dark runs h;
    ascending = ((λ n i. let less : t.start < n = h.ascending.0 n i in omega arith), h.ascending.1);
  }

-- Where bytes begin with one that is ends blank, the first token begins there.
record Begins (at : ℕ) (tokens : List Token) : Type 0 where
  first : Token
  rest : List Token
  is : tokens ≡ first ∷ rest
  start : first.start ≡ at

begins_token : (at : ℕ) (bs : List ℕ) → begins_run bs ≡ true → Begins at (tokens_at at bs)
begins_token at [] h = absurd (let e : ⊥ = cc in e)
begins_token at (b ∷ bs) h =
    choose (Begins at) (is_blank b) _ _ (λ blank. true_false (is_blank b) blank (not-true (is_blank b) h))
    (λ _. choose (Begins at) (begins_run bs) (lengthened at (tokens_at (at + 1) bs)) (token_of at (at + 1) ∷ tokens_at (at + 1) bs)
    (λ runs. let b : Begins (at + 1) (tokens_at (at + 1) bs) = begins_token (at + 1) bs runs in record { first = token_of at b.first.end; rest = b.rest; is = ap (lengthened at) b.is; start = refl })
    (λ _. record { first = token_of at (at + 1); rest = tokens_at (at + 1) bs; is = refl; start = refl }))

-- The tokens of bytes are exactly the runs.
pub tokens_are : (at : ℕ) (bytes : List ℕ) → AreRuns at bytes (tokens_at at bytes)
tokens_are at [] = search rules
tokens_are at (b ∷ bs) =
    let h : AreRuns (at + 1) bs (tokens_at (at + 1) bs) = tokens_are (at + 1) bs in
    choose (AreRuns at (b ∷ bs)) (is_blank b) _ _ (λ blank. behind_blank at b bs (tokens_at (at + 1) bs) blank h)
    (λ dark. choose (AreRuns at (b ∷ bs)) (begins_run bs) (lengthened at (tokens_at (at + 1) bs)) (token_of at (at + 1) ∷ tokens_at (at + 1) bs)
    (λ runs. let f : Begins (at + 1) (tokens_at (at + 1) bs) = begins_token (at + 1) bs runs in
    subst (λ ts. AreRuns at (b ∷ bs) (lengthened at ts)) (sym f.is) (longer at b bs f.first f.rest f.start dark runs (subst (AreRuns (at + 1) bs) f.is h)))
    (λ ends. alone at b bs (tokens_at (at + 1) bs) dark ends h))
