-- Texts that are put in a sink one after another.
use Rattle.tl_io.proofs.Common.{◌≡◌, ℕ, ◌+◌, ◌<◌, ◌≤◌, List, [], ◌++◌, length, take, Option, Result, Ok, Err, IsErrAnd, refl, sym, ap, subst, ◌∙◌, arith, length-append, take-append-le, extended, Puts}
use Rattle.std.proofs.Math.Seq.{take-append-add}
use Rattle.std.proofs.lemmas.Result.{err_from_is_err_and}
use Rattle.tl_io.specs.Causes.{Rose, HasCause}
use Rattle.tl_io.specs.Sink.{SinkSeen, IsPut}
use Rattle.tl_io.proofs.ContentLemmas.{extended_none, extended_twice}

-- a count that rose late, or early
pub rose_late : (before between now : ℕ) → before ≤ between → Rose between now → Rose before now
rose_late before between now h rose = omega (arith, h, rose)

pub rose_early : (before between now : ℕ) → Rose before between → between ≤ now → Rose before now
rose_early before between now rose h = omega (arith, rose, h)

-- a cause behind a count that didn't fall
pub cause_late : {E : Type 0} (before between now : ℕ) (result : Result Unit E) → before ≤ between → HasCause between now result → HasCause before now result
cause_late before between now (Ok done) h cause = record { later = omega (arith, h, cause.later); failed = cause.failed }
cause_late before between now (Err e) h cause = record { later = omega (arith, h, cause.later); failed = rose_late before between now h cause.failed }

-- bytes behind others, and a prefix of a text as one of a longer text
puts_twice : {E : Type 0} (old mid new : Option (List ℕ)) (text more : List ℕ) (result : Result Unit E) → mid ≡ extended old text → Puts mid new more result → Puts old new (text ++ more) result
puts_twice old mid new text more (Ok done) e puts = puts ∙ ap (λ (o : Option (List ℕ)). extended o more) e ∙ extended_twice old text more
puts_twice old mid new text more (Err f) e puts = (
  length text + puts.0,
  omega (arith, puts.1, length-append text more),
  puts.2 ∙ ap (λ (o : Option (List ℕ)). extended o (take puts.0 more)) e ∙ extended_twice old text (take puts.0 more) ∙ ap (extended old) (sym (take-append-add text more puts.0)),
)

puts_longer : (old new : Option (List ℕ)) (text more : List ℕ) → (n : ℕ) × (n < length text) × (new ≡ extended old (take n text)) → (n : ℕ) × (n < length (text ++ more)) × (new ≡ extended old (take n (text ++ more)))
puts_longer old new text more puts =
    (puts.0, omega (arith, puts.1, length-append text more), puts.2 ∙ ap (extended old) (sym (take-append-le puts.0 text more (omega (arith, puts.1)))))

-- nothing is put
pub put_none : {E : Type 0} (sink : SinkSeen) → IsPut {E = E} sink [] sink (Ok tt)
put_none sink = record { cause = record { later = omega arith; failed = tt }; grown = sym (extended_none sink.bytes); through = refl; others = refl }

-- one text and then another
pub put_twice : {D E : Type 0} {old mid new : SinkSeen} {text more : List ℕ} {done : Unit {0}} (result : Result Unit E) → IsPut {E = D} old text mid (Ok done) → IsPut mid more new result
    → IsPut old (text ++ more) new result
put_twice result a b = record {
  cause = cause_late _ _ _ result a.cause.later b.cause;
  grown = puts_twice _ _ _ _ _ result a.grown b.grown;
  through = b.through ∙ a.through;
  others = b.others ∙ a.others;
}

-- an error ends it: what was to come behind it isn't put
pub put_stopped : {D E : Type 0} {old new : SinkSeen} {text : List ℕ} {e : D} (Q : E → Type 0) (more : List ℕ) (result : Result Unit E) → IsErrAnd result Q → IsPut old text new (Err e) → IsPut old (text ++ more) new result
put_stopped {old = old} {new = new} {text = text} Q more result h a =
    let p = err_from_is_err_and result h in
    rw p.1 (record { cause = record { later = a.cause.later; failed = a.cause.failed }; grown = puts_longer old.bytes new.bytes text more a.grown; through = a.through; others = a.others })

-- the same text in another form
pub put_as : {E : Type 0} {old new : SinkSeen} {text other : List ℕ} {result : Result Unit E} → text ≡ other → IsPut old text new result → IsPut old other new result
put_as {old = old} {new = new} {result = result} e a = subst (λ (t : List ℕ). IsPut old t new result) e a
