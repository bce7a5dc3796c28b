-- Texts that are added to a writer one after another, and the writer's end.
use Rattle.tl_piece.proofs.Common.{◌≡◌, ◌⊎◌, inl, inr, ℕ, ◌≤◌, true, false, List, [], ◌++◌, Result, Ok, Err, is_err, refl, sym, ap, subst, ◌∙◌, arith, rules, SinkSeen, IsPut, IsNew, Grows, waits, cut, stays, IsAdded, IsFinished, Writer}
use Rattle.std.specs.Borrow.{MutBor}
use Rattle.std.proofs.lemmas.Bool.{cases_Bool}
use Rattle.tl_io.proofs.PutLemmas.{rose_late, rose_early, cause_late}
use Rattle.tl_piece.proofs.PieceLemmas.{adds_none, adds_waiting, adds_put_all, adds_twice, stops_put, stops_longer, stops_later, stops_still, adds_then_puts, stops_part}

-- one text and then another
grows_twice : {O : Type 0} {seen : O → SinkSeen} {old mid new : Writer O} {text more : List ℕ} → (seen old.out.now).faults ≤ (seen mid.out.now).faults → (seen mid.out.now).faults ≤ (seen new.out.now).faults
    → Grows seen old text mid → Grows seen mid more new → Grows seen old (text ++ more) new
grows_twice h k (waits o m a) (waits p n b) = waits o n (adds_twice a b)
grows_twice h k (waits o m a) (cut p n r b) = cut o n (rose_late _ _ _ h r) (stops_later a b)
grows_twice h k (waits o m a) (stays p n e) = absurd (let wrong : ⊥ = cc in wrong)
grows_twice h k (cut o m r a) (waits p n b) = absurd (let wrong : ⊥ = cc in wrong)
grows_twice h k (cut o m r a) (cut p n q b) = absurd (let wrong : ⊥ = cc in wrong)
grows_twice {more = more} h k (cut o m r a) (stays p n e) = cut o n (rose_early _ _ _ r k) (stops_longer more (stops_still a e))
grows_twice h k (stays o m e) (waits p n b) = absurd (let wrong : ⊥ = cc in wrong)
grows_twice h k (stays o m e) (cut p n q b) = absurd (let wrong : ⊥ = cc in wrong)
grows_twice h k (stays o m e) (stays p n d) = stays o n (d ∙ e)

pub added_twice : {O : Type 0} {seen : O → SinkSeen} {old mid new : Writer O} {text more : List ℕ} → IsAdded seen old text mid → IsAdded seen mid more new → IsAdded seen old (text ++ more) new
added_twice a b = search (rules, grows_twice)

-- the same text in another form
pub added_as : {O : Type 0} {seen : O → SinkSeen} {old new : Writer O} {text other : List ℕ} → text ≡ other → IsAdded seen old text new → IsAdded seen old other new
added_as {seen = seen} {old = old} {new = new} e a = subst (λ (t : List ℕ). IsAdded seen old t new) e a

-- two texts in another form
pub added_to : {O : Type 0} {seen : O → SinkSeen} {old mid new : Writer O} {text more whole : List ℕ} → text ++ more ≡ whole → IsAdded seen old text mid → IsAdded seen mid more new → IsAdded seen old whole new
added_to e a b = added_as e (added_twice a b)

-- nothing is added
none_grows : {O : Type 0} (seen : O → SinkSeen) (w : Writer O) → (w.failed ≡ true) ⊎ (w.failed ≡ false) → Grows seen w [] w
none_grows seen w (inl set) = stays set set refl
none_grows seen w (inr clear) = waits clear clear (adds_none _ _)

pub added_none : {O : Type 0} (seen : O → SinkSeen) (w : Writer O) → IsAdded seen w [] w
added_none seen w = record { name = refl; grows = none_grows seen w (cases_Bool w.failed); later = omega arith; through = refl; others = refl }

-- a text that waits behind what waited
behind_grows : {O : Type 0} (seen : O → SinkSeen) (old new : Writer O) (more : List ℕ) → new.failed ≡ old.failed → new.piece.now ≡ old.piece.now ++ more → (seen new.out.now).bytes ≡ (seen old.out.now).bytes
    → (old.failed ≡ true) ⊎ (old.failed ≡ false) → Grows seen old more new
behind_grows seen old new more same e put (inl set) = stays set (same ∙ set) put
behind_grows seen old new more same e put (inr clear) = waits clear (same ∙ clear) (adds_waiting put e)

pub added_behind : {O : Type 0} (seen : O → SinkSeen) (old new : Writer O) (more : List ℕ) → new.out ≡ old.out → new.failed ≡ old.failed → new.piece.now ≡ old.piece.now ++ more → IsAdded seen old more new
added_behind {O = O} seen old new more out same e = grind (arith, behind_grows, cases_Bool)

-- what waited was put, to make room
room_put : {O E : Type 0} (seen : O → SinkSeen) (old new : Writer O) (result : Result Unit E) → old.failed ≡ false → IsPut (seen old.out.now) old.piece.now (seen new.out.now) result
    → new.piece.now ≡ [] → new.failed ≡ is_err result → Grows seen old [] new
room_put seen old new (Ok done) clear p empty failed = waits clear failed (adds_put_all p.grown empty)
room_put seen old new (Err e) clear p empty failed = cut clear failed p.cause.failed (stops_put old.piece.now p.grown)

room_made : {O E : Type 0} (seen : O → SinkSeen) (old mid new : Writer O) (result : Result Unit E) → (old.failed ≡ true) ⊎ (old.failed ≡ false) → IsFinished seen old mid result
    → new.out.ghost_name ≡ mid.out.ghost_name → seen new.out.now ≡ seen mid.out.now → new.piece.now ≡ [] → new.failed ≡ is_err result → IsAdded seen old [] new
room_made seen old mid new result (inl set) f name there empty failed = grind arith
room_made seen old mid new result (inr clear) f name there empty failed = grind (arith, room_put)

pub added_room : {O E : Type 0} {seen : O → SinkSeen} {old mid new : Writer O} (result : Result Unit E) → IsFinished seen old mid result → new.out ≡ mid.out → new.piece.now ≡ [] → new.failed ≡ is_err result
    → IsAdded seen old [] new
added_room {O = O} {seen = seen} {old = old} {mid = mid} {new = new} result f out empty failed = grind (arith, room_made, cases_Bool)

-- a text that was added to a new writer, and then what waited was put: the text was put
put_by : {O E : Type 0} (seen : O → SinkSeen) (was mid is : Writer O) (text : List ℕ) (result : Result Unit E) → was.failed ≡ false → was.piece.now ≡ [] → IsFinished seen mid is result
    → IsAdded seen was text mid → Grows seen was text mid → IsPut (seen was.out.now) text (seen is.out.now) result
put_by seen was mid is text result whole empty f a (waits o m adds) =
    let p : IsPut (seen mid.out.now) mid.piece.now (seen is.out.now) result = f.put m in
    record {
      cause = cause_late _ _ _ result a.later p.cause;
      grown = adds_then_puts (seen is.out.now).bytes result empty adds p.grown;
      through = p.through ∙ a.through;
      others = p.others ∙ a.others;
    }
put_by seen was mid is text (Ok done) whole empty f a (cut o m rose part) = absurd (let e : false ≡ true = (f.failed m).0 in let wrong : ⊥ = cc in wrong)
put_by seen was mid is text (Err e) whole empty f a (cut o m rose part) = grind arith
put_by seen was mid is text result whole empty f a (stays o m e) = absurd (let wrong : ⊥ = cc in wrong)

pub put_over : {O E : Type 0} {seen : O → SinkSeen} {out : MutBor O} {after : O} {was mid is : Writer O} {text : List ℕ} {result : Result Unit E} → after ≡ is.out.now → IsNew out was
    → IsAdded seen was text mid → IsFinished seen mid is result → IsPut (seen out.now) text (seen after) result
put_over {O = O} {seen = seen} {after = after} {was = was} {mid = mid} {is = is} {text = text} {result = result} back n a f =
    subst (λ (o : O). IsPut (seen o) text (seen after) result) n.sink
    (subst (λ (o : O). IsPut (seen was.out.now) text (seen o) result) (sym back) (put_by seen was mid is text result n.whole n.empty f a a.grows))
