-- The lines of a script are read one by one: the events of the lines so far, and the first line that has a refusal. A word is split at its last `=`, and the
-- refusal of a setting by the tests of its name.
use Rattle.run_text.proofs.Common.{◌≡◌, ℕ, ◌+◌, ◌<◌, ◌≤◌, List, [], ◌∷◌, ◌++◌, length, take, Some, None, refl, sym, ap, ◌∙◌, subst, inl, inr, arith, slice_get, option_and_then, cases_lt, map-append, slice_get_past, WordsLine, each_of, EventValue, event_value, event_values, NamesValue, line_refusal, line_event, refusal_at, IsFirstRefusal, AreEventsOf, ScriptErr, ◌≢◌, zero, suc, true, false, get_or, drop, cond-true, cond-false, eq-eqb, ne_eqb, has_name, split_before, split_last, settings_refusal, Setting, NotParameter, RepeatedInSet, rules}
use Rattle.run_text.specs.declared.event.Event.{Event}
use Rattle.run_text.proofs.EachLemmas.{each_next, each_all}

-- the lines before a place have no refusal, and these are their events
pub record AreRead (names : NamesValue) (lines : List WordsLine) (i : ℕ) (events : List EventValue) : Type 0 where
  pub none : (k : ℕ) → k < i → refusal_at names lines k ≡ None
  pub are : each_of (line_event names) (take i lines) ≡ Some events

module _ (names : NamesValue) (lines : List WordsLine) where
  pub nothing_read : AreRead names lines 0 []
  nothing_read = record { none = λ k l. absurd (omega arith); are = refl }

  module _ (i : ℕ) (events : List EventValue) (read : AreRead names lines i events) where
    module _ (line : WordsLine) (at : slice_get lines i ≡ Some line) where
      next_refusal : refusal_at names lines i ≡ line_refusal names i line
      next_refusal = ap (option_and_then (line_refusal names i)) at

      pub first_refusal : (e : ScriptErr) → line_refusal names i line ≡ Some e → IsFirstRefusal names lines e
      first_refusal e is = record { place = i; is = next_refusal ∙ is; none_before = read.none }

      pub one_more : (event : EventValue) → line_refusal names i line ≡ None → line_event names line ≡ Some event → AreRead names lines (i + 1) (events ++ event ∷ [])
      one_more event none says = record {
        none = λ k l. elim (cases_lt k i) [ inl m ↦ read.none k m | inr m ↦ (let e : i ≡ k = omega arith in subst (λ j. refusal_at names lines j ≡ None) e (next_refusal ∙ none)) ];
        are = each_next (line_event names) lines i line at events (events ++ event ∷ []) event says refl read.are;
      }

    -- all lines are read
    pub all_read : length lines ≤ i → AreEventsOf names lines events
    all_read past = search (rules, cases_lt, slice_get_past, each_all)

-- one more event
pub one_event : (events more : List Event) (event : Event) → more ≡ events ++ event ∷ [] → event_values events ++ event_value event ∷ [] ≡ event_values more
one_event events more event pushed = sym (ap event_values pushed ∙ map-append event_value events (event ∷ []))

pub split_none : (xs : List ℕ) → ((k : ℕ) → k < length xs → get_or xs k 0 ≢ 61) → split_last xs ≡ None
split_none [] none = refl
split_none (x ∷ xs) none = ap (split_before x xs) (split_none xs (λ k l. none (suc k) (omega arith))) ∙ cond-false _ _ _ (ne_eqb x 61 (none 0 (omega arith)))

pub split_there : (xs : List ℕ) (i : ℕ) → i < length xs → get_or xs i 0 ≡ 61 → ((k : ℕ) → i + 1 ≤ k → k < length xs → get_or xs k 0 ≢ 61)
    → split_last xs ≡ Some (record { front = take i xs; back = drop (i + 1) xs })
split_there [] i l here after = absurd (omega arith)
split_there (x ∷ xs) zero l here after =
    ap (split_before x xs) (split_none xs (λ k m. after (suc k) (omega arith) (omega arith))) ∙ cond-true _ _ _ (eq-eqb x 61 here)
split_there (x ∷ xs) (suc i) l here after =
    let n : suc i + 1 ≡ suc (i + 1) = omega arith in
    grind (arith, split_there xs i (omega arith) here (λ k a b. after (suc k) (omega arith) (omega arith)))

-- the refusal of a setting, and of those behind it
module _ (params : List (List ℕ)) (number : ℕ) (earlier : List (List ℕ)) (setting : Setting) (rest : List Setting) where
  pub no_parameter : has_name params setting.name ≡ false → settings_refusal params number earlier (setting ∷ rest) ≡ Some (NotParameter number setting.name)
  no_parameter p = rw p refl

  pub repeated : has_name params setting.name ≡ true → has_name earlier setting.name ≡ true → settings_refusal params number earlier (setting ∷ rest) ≡ Some (RepeatedInSet number setting.name)
  repeated p e = rw (p, e) refl

  pub passed : has_name params setting.name ≡ true → has_name earlier setting.name ≡ false → settings_refusal params number earlier (setting ∷ rest) ≡ settings_refusal params number (earlier ++ setting.name ∷ []) rest
  passed p e = rw (p, e) refl
