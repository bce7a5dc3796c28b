-- Bytes that wait, and texts that are added behind them.
use Rattle.tl_piece.proofs.Common.{◌≡◌, ℕ, ◌+◌, ◌<◌, List, [], ◌++◌, length, take, Option, Result, Ok, Err, sym, ap, subst, ◌∙◌, arith, append_assoc, append-nil, length-append, rules, take-append-le}
use Rattle.std.proofs.Math.Seq.{take-append-add}
use Rattle.tl_io.specs.Content.{extended, Puts}
use Rattle.tl_io.proofs.ContentLemmas.{extended_none, extended_twice}
use Rattle.tl_piece.specs.Pieces.{Adds, Stops}

-- nothing is added
pub adds_none : (told : Option (List ℕ)) (waiting : List ℕ) → Adds told waiting [] told waiting
adds_none told waiting = record { sent = []; put = sym (extended_none told); rest = sym (append-nil waiting) }

-- a text that waits behind what waited
pub adds_waiting : {old new : Option (List ℕ)} {waiting more left : List ℕ} → new ≡ old → left ≡ waiting ++ more → Adds old waiting more new left
adds_waiting {old = old} e same = record { sent = []; put = e ∙ sym (extended_none old); rest = same }

-- what waited was put
pub adds_put_all : {old new : Option (List ℕ)} {waiting left : List ℕ} → new ≡ extended old waiting → left ≡ [] → Adds old waiting [] new left
adds_put_all {waiting = waiting} e empty = record { sent = waiting; put = e; rest = ap (λ (t : List ℕ). waiting ++ t) empty }

-- one text and then another
pub adds_twice : {old mid new : Option (List ℕ)} {waiting text between more left : List ℕ} → Adds old waiting text mid between → Adds mid between more new left → Adds old waiting (text ++ more) new left
adds_twice {old = old} {waiting = waiting} {text = text} {between = between} {more = more} {left = left} a b = search (rules, extended_twice, append_assoc)

-- a prefix of what waited was put
pub stops_put : {old new : Option (List ℕ)} (waiting : List ℕ) → (n : ℕ) × (n < length waiting) × (new ≡ extended old (take n waiting)) → Stops old waiting [] new
stops_put {old = old} waiting p = grind (arith, append-nil)

-- a prefix of a text is one of a longer text
pub stops_longer : {old new : Option (List ℕ)} {waiting text : List ℕ} (more : List ℕ) → Stops old waiting text new → Stops old waiting (text ++ more) new
stops_longer {old = old} {waiting = waiting} {text = text} more s = search (rules, length-append, take-append-le, append_assoc)

-- a text was added, and the next one stopped
pub stops_later : {old mid new : Option (List ℕ)} {waiting text between more : List ℕ} → Adds old waiting text mid between → Stops mid between more new → Stops old waiting (text ++ more) new
stops_later {old = old} {waiting = waiting} {text = text} {between = between} {more = more} a s =
    let all : a.sent ++ (between ++ more) ≡ waiting ++ (text ++ more) =
    sym (append_assoc a.sent between more) ∙ ap (λ (t : List ℕ). t ++ more) a.rest ∙ append_assoc waiting text more in
    record {
      count = length a.sent + s.count;
      within = omega (arith, s.within, ap length all, length-append a.sent (between ++ more));
      put = s.put ∙ ap (λ (o : Option (List ℕ)). extended o (take s.count (between ++ more))) a.put ∙ extended_twice old a.sent _
          ∙ ap (extended old) (sym (take-append-add a.sent (between ++ more) s.count) ∙ ap (take (length a.sent + s.count)) all);
    }

-- a text that stopped, and nothing was put any more
pub stops_still : {old mid new : Option (List ℕ)} {waiting text : List ℕ} → Stops old waiting text mid → new ≡ mid → Stops old waiting text new
stops_still s e = record { count = s.count; within = s.within; put = e ∙ s.put }

-- what was added to an empty buffer and then put is put whole
pub adds_put : {old mid new : Option (List ℕ)} {text left : List ℕ} → Adds old [] text mid left → new ≡ extended mid left → new ≡ extended old text
adds_put {old = old} {left = left} a e = e ∙ ap (λ (o : Option (List ℕ)). extended o left) a.put ∙ extended_twice old a.sent left ∙ ap (extended old) a.rest

pub adds_put_part : {old mid new : Option (List ℕ)} {text left : List ℕ} → Adds old [] text mid left → (n : ℕ) → n < length left → new ≡ extended mid (take n left)
    → (m : ℕ) × (m < length text) × (new ≡ extended old (take m text))
adds_put_part {old = old} {text = text} {left = left} a n h e = (
  length a.sent + n,
  omega (arith, h, ap length a.rest, length-append a.sent left),
  e ∙ ap (λ (o : Option (List ℕ)). extended o (take n left)) a.put ∙ extended_twice old a.sent (take n left)
      ∙ ap (extended old) (sym (take-append-add a.sent left n) ∙ ap (take (length a.sent + n)) a.rest),
)

pub adds_then_puts : {E : Type 0} {old mid : Option (List ℕ)} {waiting text left : List ℕ} (new : Option (List ℕ)) (result : Result Unit E) → waiting ≡ [] → Adds old waiting text mid left
    → Puts mid new left result → Puts old new text result
adds_then_puts {old = old} {mid = mid} {text = text} {left = left} new (Ok u) e a puts = adds_put (subst (λ (w : List ℕ). Adds old w text mid left) e a) puts
adds_then_puts {old = old} {mid = mid} {text = text} {left = left} new (Err f) e a puts = adds_put_part (subst (λ (w : List ℕ). Adds old w text mid left) e a) puts.0 puts.1 puts.2

-- a text that stopped at an empty buffer left a prefix of it
pub stops_part : {old new : Option (List ℕ)} {waiting text : List ℕ} → waiting ≡ [] → Stops old waiting text new → (m : ℕ) × (m < length text) × (new ≡ extended old (take m text))
stops_part {old = old} {new = new} {text = text} e s = grind arith
