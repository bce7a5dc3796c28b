-- What is put of some events, of one event more, and behind a text in front.
use Rattle.cmd_stations.proofs.Common.{◌≡◌, ℕ, List, [], ◌∷◌, ◌++◌, Option, Result, Ok, Err, inl, inr, sym, ap, ◌∙◌, arith, concat, extended, extended_none}
use Rattle.cmd_stations.specs.Playing.{AreAllPut, IsCutInLine, PutsAll}
use Rattle.cmd_stations.proofs.EventLemmas.{put_then, one_line}

-- no event was played yet
pub put_none : {Event State : Type 0} {Come : List Event → List (List ℕ) → State → Type 0} {old : State} (before : Option (List ℕ)) → Come [] [] old → AreAllPut Come [] [] before old before
put_none before come = record { lines = []; come = come; bytes = sym (extended_none before) }

-- one event more, where its line is put behind the others
pub put_more : {Event State : Type 0} {Come : List Event → List (List ℕ) → State → Type 0} {events more : List Event} {first before after : Option (List ℕ)} {mid new : State} (line : List ℕ)
    → ((lines : List (List ℕ)) → Come events lines mid → Come more (lines ++ line ∷ []) new) → AreAllPut Come [] events first mid before → after ≡ extended before line → AreAllPut Come [] more first new after
put_more {first = first} {before = before} {after = after} line then come put = record {
  lines = come.lines ++ line ∷ [];
  come = then come.lines come.come;
  bytes = put_then first before after (concat come.lines) line come.bytes put ∙ ap (λ l. extended first l) (one_line come.lines line);
}

-- what is put behind a text in front, seen from before it
module _ {Event State : Type 0} {Come Whole : List Event → List (List ℕ) → State → Type 0} (all : (events : List Event) (lines : List (List ℕ)) (state : State) → Come events lines state → Whole events lines state)
    (front : List ℕ) (first before : Option (List ℕ)) (put : before ≡ extended first front) where
  pub all_behind : {events : List Event} {end : State} {after : Option (List ℕ)} → AreAllPut Come [] events before end after → AreAllPut Whole front events first end after
  all_behind {events = events} {end = end} {after = after} a = record { lines = a.lines; come = all events a.lines end a.come; bytes = put_then first before after front (concat a.lines) put a.bytes }

  abbrev pub cut_behind : {Step : Event → State → List ℕ → State → Type 0} {events : List Event} {after : Option (List ℕ)} → IsCutInLine Come Step [] events before after → IsCutInLine Whole Step front events first after
  cut_behind c = record {
    first = c.first;
    event = c.event;
    split = c.split;
    mid = c.mid;
    whole = c.whole;
    put = all_behind c.put;
    line = c.line;
    end = c.end;
    step = c.step;
    part = c.part;
    within = c.within;
    bytes = c.bytes;
  }

  pub puts_behind : {E : Type 0} (Step : Event → State → List ℕ → State → Type 0) (events : List Event) (after : Option (List ℕ)) (result : Result Unit E) → PutsAll Come Step [] events before after result → PutsAll Whole Step front events first after result
  puts_behind Step events after (Ok done) a = (a.0, all_behind a.1)
  puts_behind Step events after (Err e) (inl c) = absurd (omega (arith, c.within))
  puts_behind Step events after (Err e) (inr c) = inr (cut_behind c)
