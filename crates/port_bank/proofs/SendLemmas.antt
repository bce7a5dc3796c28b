-- A send that goes on: a call was answered, a port was replaced or lost, a region was loaded. Which ports a send moves: how many, and each with its cause.
use Rattle.port_bank.proofs.Common.{◌≡◌, ℕ, suc, ◌+◌, ◌*◌, ◌<◌, ◌≤◌, Bool, true, false, List, [], ◌∷◌, ◌++◌, length, take, drop, get_or, Result, Ok, Err, is_ok, OnOk, OnErr, refl, ap, sym, arith, subst, both_ways, length-take, drop_all, Write, region_of, region, outside, writes_from, BankSeen, Called, Replaced, Retired, start, accepted, replaced, Reaches, Loses, Breaks, Fills, FailsToFill, Mends, FailsToMend, from_region, AreInOrder, Steps, FailsToStep, AreAscending, rules, ◌⊎◌, zero, Some, ◌∙◌, inl, inr, append-nil, append_assoc, slice_set, slice_get, remove, length-append, length-remove, slice_get_within, same_Some, In, In-left, In-right, In-append, In-get, set_length, set_here, PortSeen, Sends}
use Rattle.port_bank.proofs.RegionLemmas.{region_of_place}
use Rattle.port_bank.proofs.FilterLemmas.{from_keeps, from_first, outside_from, outside_twice, outside_left, left_from, in_order, in_order_left}
use Rattle.tl_io.specs.Counts.{raised}
use Rattle.port_bank.specs.Moves.{Becomes, start as stays, accepted as by_accepted, replaced as by_replaced, FallsShort, MovesWithCause, KeepsPlaces, LosesPlace}

pub reaches_start : (w : ℕ) (config : List Bool) (writes : List Write) (bank : BankSeen) → Reaches w config writes bank writes bank
reaches_start w config writes bank = record { answers = []; sends = start }

-- the port of the region accepted the next write
pub reaches_more : (w : ℕ) (config : List Bool) (writes left : List Write) (base old new : BankSeen) (write : Write) (i : ℕ) → Reaches w config writes base (write ∷ left) old →
    region_of w write ≡ i → Called i write true old new → Reaches w config writes base left new
reaches_more w config writes left base old new write i r e c = record {
  answers = r.answers ++ true ∷ [];
  sends = accepted r.sends (subst (λ j. Called j write true old new) (sym e) c);
}

-- it failed at it
pub breaks_here : (w : ℕ) (config : List Bool) (writes left others : List Write) (base old new : BankSeen) (write : Write) (i : ℕ) → Reaches w config writes base (write ∷ left) old →
    region_of w write ≡ i → Called i write false old new → outside w i left ≡ others → Breaks w config writes base i others new
breaks_here w config writes left others base old new write i r e c o = search rules

-- a spare takes the place of the port that failed
pub breaks_replaced : (w : ℕ) (config : List Bool) (writes others : List Write) (base old new : BankSeen) (i : ℕ) → Breaks w config writes base i others old → Replaced i old new →
    Reaches w config writes base (region w config i ++ others) new
breaks_replaced w config writes others base old new i b r =
    let goes_on : Reaches w config writes base (region w config (region_of w b.write) ++ outside w (region_of w b.write) b.left) new = record {
      answers = b.answers ++ false ∷ [];
      sends = replaced b.sends b.failed (subst (λ j. Replaced j old new) (sym b.place) r);
    } in
    grind (arith)

-- none does
pub breaks_retired : (w : ℕ) (config : List Bool) (writes others : List Write) (base old new : BankSeen) (i : ℕ) → Breaks w config writes base i others old → Retired i old new →
    Loses w config writes base i new
breaks_retired w config writes others base old new i b r = search rules

-- the load of a region: its first writes were accepted
pub record FillsFirst (w : ℕ) (config : List Bool) (i count : ℕ) (old new : BankSeen) : Type 0 where
  pub on : (writes : List Write) (base : BankSeen) (others : List Write) → Reaches w config writes base (region w config i ++ others) old →
      Reaches w config writes base (drop count (region w config i) ++ others) new

next_of : (w : ℕ) (config : List Bool) (i k : ℕ) (others : List Write) → k < length (take w (drop (i * w) config)) →
    drop k (region w config i) ++ others ≡ (record { address = i * w + k; bit = get_or (take w (drop (i * w) config)) k false } ∷ (drop (k + 1) (region w config i) ++ others))
next_of w config i k others h = ap (λ t. t ++ others) (left_from (take w (drop (i * w) config)) (i * w) k false h)

pub fills_more : (w : ℕ) (config : List Bool) (i k : ℕ) (old mid new : BankSeen) → k < length (take w (drop (i * w) config)) → FillsFirst w config i k old mid →
    Called i (record { address = i * w + k; bit = get_or (take w (drop (i * w) config)) k false }) true mid new → FillsFirst w config i (k + 1) old new
fills_more w config i k old mid new h f c = record {
  on = λ writes base others r.
      reaches_more w config writes (drop (k + 1) (region w config i) ++ others) base mid new _ i
      (subst (λ t. Reaches w config writes base t mid) (next_of w config i k others h) (f.on writes base others r))
      (region_of_place w i k (get_or (take w (drop (i * w) config)) k false) (omega (arith, h, length-take w (drop (i * w) config)))) c;
}

pub fills_all : (w : ℕ) (config : List Bool) (i k : ℕ) (old new : BankSeen) → length (region w config i) ≤ k → FillsFirst w config i k old new → Fills w config i old new
fills_all w config i k old new h f = search (rules, drop_all)

pub fills_breaks : (w : ℕ) (config : List Bool) (i k : ℕ) (old mid new : BankSeen) → k < length (take w (drop (i * w) config)) → FillsFirst w config i k old mid →
    Called i (record { address = i * w + k; bit = get_or (take w (drop (i * w) config)) k false }) false mid new → FailsToFill w config i old new
fills_breaks w config i k old mid new h f c = record {
  on = λ writes base others o r.
      breaks_here w config writes (drop (k + 1) (region w config i) ++ others) others base mid new _ i
      (subst (λ t. Reaches w config writes base t mid) (next_of w config i k others h) (f.on writes base others r))
      (region_of_place w i k (get_or (take w (drop (i * w) config)) k false) (omega (arith, h, length-take w (drop (i * w) config)))) c
      (outside_left w i (k + 1) config others o);
}

-- spares that failed in their loads were replaced
pub record StillBroken (w : ℕ) (config : List Bool) (i : ℕ) (old new : BankSeen) : Type 0 where
  pub on : (writes : List Write) (base : BankSeen) (others : List Write) → outside w i others ≡ others → Breaks w config writes base i others old → Breaks w config writes base i others new

pub broken_more : (w : ℕ) (config : List Bool) (i : ℕ) (old mid next new : BankSeen) → StillBroken w config i old mid → Replaced i mid next → FailsToFill w config i next new → StillBroken w config i old new
broken_more w config i old mid next new s r f = record {
  on = λ writes base others o b. f.on writes base others o (breaks_replaced w config writes others base mid next i (s.on writes base others o b) r);
}

pub mends_now : (w : ℕ) (config : List Bool) (i : ℕ) (old mid next new : BankSeen) → StillBroken w config i old mid → Replaced i mid next → Fills w config i next new → Mends w config i old new
mends_now w config i old mid next new s r f = record {
  on = λ writes base others o b. f.on writes base others (breaks_replaced w config writes others base mid next i (s.on writes base others o b) r);
}

pub mends_never : (w : ℕ) (config : List Bool) (i : ℕ) (old mid new : BankSeen) → StillBroken w config i old mid → Retired i mid new → FailsToMend w config i old new
mends_never w config i old mid new s r = record {
  on = λ writes base others o b. breaks_retired w config writes others base mid new i (s.on writes base others o b) r;
}

pub steps_accepted : (w : ℕ) (config : List Bool) (passed : ℕ) (write : Write) (old new : BankSeen) → passed ≤ region_of w write → Called (region_of w write) write true old new → Steps w config passed write passed old new
steps_accepted w config passed write old new h c = record {
  on = λ writes base left o r.
      reaches_more w config writes (from_region w passed left) base old new write (region_of w write)
      (subst (λ t. Reaches w config writes base t old) (from_keeps w passed write left h) r) refl c;
}

breaks_at : (w : ℕ) (config : List Bool) (passed : ℕ) (write : Write) (old new : BankSeen) → passed ≤ region_of w write → Called (region_of w write) write false old new →
    (writes : List Write) (base : BankSeen) (left : List Write) → Reaches w config writes base (from_region w passed (write ∷ left)) old →
    Breaks w config writes base (region_of w write) (outside w (region_of w write) (from_region w passed left)) new
breaks_at w config passed write old new h c writes base left r = grind (arith, breaks_here, from_keeps)

pub steps_mended : (w : ℕ) (config : List Bool) (passed : ℕ) (write : Write) (old mid new : BankSeen) → passed ≤ region_of w write → Called (region_of w write) write false old mid →
    Mends w config (region_of w write) mid new → Steps w config passed write (region_of w write + 1) old new
steps_mended w config passed write old mid new h c m = search (rules, outside_from, outside_twice, breaks_at)

pub steps_lost : (w : ℕ) (config : List Bool) (passed : ℕ) (write : Write) (old mid new : BankSeen) → passed ≤ region_of w write → Called (region_of w write) write false old mid →
    FailsToMend w config (region_of w write) mid new → FailsToStep w config passed write (region_of w write) old new
steps_lost w config passed write old mid new h c m = record {
  on = λ writes base left o r.
      m.on writes base (outside w _ (from_region w passed left)) (outside_twice w _ (from_region w passed left)) (breaks_at w config passed write old mid h c writes base left r);
}

-- the same of a region's first address and bits
pub at_place : (w : ℕ) (config : List Bool) (i k first : ℕ) (bits : List Bool) (answer : Bool) (mid new : BankSeen) → first ≡ i * w → bits ≡ take w (drop (i * w) config) →
    Called i (record { address = first + k; bit = get_or bits k false }) answer mid new →
    Called i (record { address = i * w + k; bit = get_or (take w (drop (i * w) config)) k false }) answer mid new
at_place w config i k first bits answer mid new e b c = grind arith

pub length-writes_from : (bits : List Bool) (s : ℕ) → length (writes_from s bits) ≡ length bits
length-writes_from [] s = refl
length-writes_from (b ∷ bs) s = ap suc (length-writes_from bs (s + 1))

pub inside_bits : (w : ℕ) (config : List Bool) (i k : ℕ) (bits : List Bool) → bits ≡ take w (drop (i * w) config) → k < length bits → k < length (take w (drop (i * w) config))
inside_bits w config i k bits e h = subst (λ bs. k < length bs) e h

pub past_bits : (w : ℕ) (config : List Bool) (i k : ℕ) (bits : List Bool) → bits ≡ take w (drop (i * w) config) → length bits ≤ k → length (region w config i) ≤ k
past_bits w config i k bits e h = grind (arith, length-writes_from)

-- what a result says where it is Ok, and where it is not
pub on_ok_at : {V E P : Type 0} (r : Result V E) → is_ok r ≡ true → OnOk r P → P
on_ok_at (Ok v) e h = h
on_ok_at (Err x) e h = absurd (both_ways false refl e)

pub on_err_at : {V E P : Type 0} (r : Result V E) → is_ok r ≡ false → OnErr r P → P
on_err_at (Ok v) e h = absurd (both_ways true e refl)
on_err_at (Err x) e h = h

-- writes that are sent one after another
pub sends_none : (w : ℕ) (config : List Bool) (writes : List Write) (bank : BankSeen) → Reaches w config writes bank (from_region w 0 writes) bank
sends_none w config writes bank = subst (λ t. Reaches w config writes bank t bank) (sym (from_first w writes)) (reaches_start w config writes bank)

ordered : (w i : ℕ) (writes : List Write) (write : Write) → 0 < w → AreAscending writes → drop i writes ≡ write ∷ drop (i + 1) writes → AreInOrder w (write ∷ drop (i + 1) writes)
ordered w i writes write some a e = subst (λ t. AreInOrder w t) e (in_order_left w i writes (in_order w writes some a))

pub sends_more : (w i passed next : ℕ) (config : List Bool) (writes : List Write) (write : Write) (base old new : BankSeen) → 0 < w → AreAscending writes → drop i writes ≡ write ∷ drop (i + 1) writes →
    Reaches w config writes base (from_region w passed (drop i writes)) old → Steps w config passed write next old new → Reaches w config writes base (from_region w next (drop (i + 1) writes)) new
sends_more w i passed next config writes write base old new some a e r s =
    s.on writes base (drop (i + 1) writes) (ordered w i writes write some a e) (subst (λ t. Reaches w config writes base (from_region w passed t) old) e r)

pub sends_lost : (w i passed region : ℕ) (config : List Bool) (writes : List Write) (write : Write) (base old new : BankSeen) → 0 < w → AreAscending writes → drop i writes ≡ write ∷ drop (i + 1) writes →
    Reaches w config writes base (from_region w passed (drop i writes)) old → FailsToStep w config passed write region old new → Loses w config writes base region new
sends_lost w i passed region config writes write base old new some a e r s =
    s.on writes base (drop (i + 1) writes) (ordered w i writes write some a e) (subst (λ t. Reaches w config writes base (from_region w passed t) old) e r)

pub sends_all : (w i passed : ℕ) (config : List Bool) (writes : List Write) (base new : BankSeen) → length writes ≤ i →
    Reaches w config writes base (from_region w passed (drop i writes)) new → Reaches w config writes base [] new
sends_all w i passed config writes base new h r = subst (λ t. Reaches w config writes base (from_region w passed t) new) (drop_all i writes h) r

-- what a bank becomes
pub sends_become : {w : ℕ} {config : List Bool} {writes : List Write} {old : BankSeen} {answers : List Bool} {left : List Write} {new : BankSeen} → Sends w config writes old answers left new → Becomes old new
sends_become start = stays
sends_become {w} (accepted {write = write} s c) = by_accepted (region_of w write) write (sends_become s) c
sends_become {w} (replaced {write = write} s c r) = by_replaced (region_of w write) write (sends_become s) c r

pub loses_short : {w : ℕ} {config : List Bool} {writes : List Write} {old : BankSeen} {i : ℕ} {new : BankSeen} → Loses w config writes old i new → FallsShort old new
loses_short {w} l = record { place = region_of w l.write; write = l.write; mid = l.mid; next = l.next; becomes = sends_become l.sends; failed = l.failed; retired = l.retired }

-- places
keeps_called : (i : ℕ) (write : Write) (answer : Bool) (base old new : BankSeen) → KeepsPlaces base old → Called i write answer old new → KeepsPlaces base new
keeps_called i write answer base old new k c = search (rules, set_length)

keeps_replaced : (i : ℕ) (base old new : BankSeen) → KeepsPlaces base old → Replaced i old new → KeepsPlaces base new
keeps_replaced i base old new k r =
    record {
      serving = ap (λ (b : BankSeen). length b.serving) r.now ∙ (set_length old.serving i r.spare ∙ k.serving);
      used = omega (arith, ap (λ (b : BankSeen). length b.failed) r.now ∙ length-append old.failed (r.port ∷ []), ap length r.first, k.used);
      left = (k.left.0 ++ r.spare ∷ [], k.left.1 ∙ (ap (λ l. k.left.0 ++ l) r.first ∙ sym (append_assoc k.left.0 (r.spare ∷ []) new.spares)));
      rest = ap (λ (b : BankSeen). b.rest) r.now ∙ k.rest;
    }

pub keeps_places : {w : ℕ} {config : List Bool} {writes : List Write} {old : BankSeen} {answers : List Bool} {left : List Write} {new : BankSeen} →
    Sends w config writes old answers left new → KeepsPlaces old new
keeps_places start = record { serving = refl; used = refl; left = ([], refl); rest = refl }
keeps_places {w} {old = old} (accepted {write = write} {mid = mid} {new = new} s c) = keeps_called (region_of w write) write true old mid new (keeps_places s) c
keeps_places {w} {old = old} (replaced {write = write} {mid = mid} {next = next} {new = new} s c r) =
    keeps_replaced (region_of w write) old next new (keeps_called (region_of w write) write false old mid next (keeps_places s) c) r

pub loses_place : {w : ℕ} {config : List Bool} {writes : List Write} {old : BankSeen} {i : ℕ} {new : BankSeen} → Loses w config writes old i new → LosesPlace old new
loses_place {w} {old = old} {new = new} l =
    let k = keeps_called (region_of w l.write) l.write false old l.mid l.next (keeps_places l.sends) l.failed in
    let r = l.retired in
    record {
      serving = omega (arith, ap (λ (b : BankSeen). length b.serving) r.now, length-remove l.next.serving (region_of w l.write) (slice_get_within l.next.serving (region_of w l.write) r.port r.was), k.serving);
      spares = ap (λ (b : BankSeen). b.spares) r.now;
      failed = omega (arith, ap (λ (b : BankSeen). length b.failed) r.now ∙ length-append l.next.failed (r.port ∷ []), ap length r.none_left, k.used);
      rest = ap (λ (b : BankSeen). b.rest) r.now ∙ k.rest;
    }

-- what stands in a list with one element set
in_set : {X : Type 0} (xs : List X) (i : ℕ) (y x : X) → In (slice_set xs i y) x → (x ≡ y) ⊎ In xs x
in_set [] i y x h = absurd h
in_set (z ∷ zs) zero y x (inl e) = inl e
in_set (z ∷ zs) zero y x (inr r) = inr (inr r)
in_set (z ∷ zs) (suc i) y x (inl e) = inr (inl e)
in_set (z ∷ zs) (suc i) y x (inr r) = elim (in_set zs i y x r) [ inl e ↦ inl e | inr t ↦ inr (inr t) ]

-- a place that is set twice, and one that is set and then removed
set_twice : {X : Type 0} (xs : List X) (i : ℕ) (x y : X) → slice_set (slice_set xs i x) i y ≡ slice_set xs i y
set_twice (z ∷ zs) (suc i) x y = ap (λ (t : List _). z ∷ t) (set_twice zs i x y)
set_twice items i x y = refl

set_removed : {X : Type 0} (xs : List X) (i : ℕ) (x : X) → remove (slice_set xs i x) i ≡ remove xs i
set_removed (z ∷ zs) (suc i) x = ap (λ (t : List _). z ∷ t) (set_removed zs i x)
set_removed items i x = refl

-- each port that serves or stands by did so before, and its count of faults is as before
record Stems (old new : BankSeen) : Type 0 where
  stems : (port : PortSeen) → In (new.serving ++ new.spares) port → (before : PortSeen) × In (old.serving ++ old.spares) before × (port.faults ≡ before.faults)

stems_called : (i : ℕ) (write : Write) (base old new : BankSeen) → Stems base old → Called i write true old new → Stems base new
stems_called i write base old new s c = record {
  stems = λ port h.
      elim (In-append (slice_set old.serving i c.after) old.spares port (subst (λ (b : BankSeen). In (b.serving ++ b.spares) port) c.now h)) [
        | inl a ↦ elim (in_set old.serving i c.after port a) [
          | inl e ↦
              let t = s.stems c.before (In-left old.serving old.spares c.before (In-get old.serving i c.before c.was)) in
              (t.0, t.1, ap (λ (q : PortSeen). q.faults) e ∙ (c.answered.faults ∙ t.2))
          | inr b ↦ s.stems port (In-left old.serving old.spares port b)
        ]
        | inr b ↦ s.stems port (In-right old.serving old.spares port b)
      ];
}

-- the port that failed left
stems_replaced : (i : ℕ) (write : Write) (base old mid new : BankSeen) → Stems base old → Called i write false old mid → Replaced i mid new → Stems base new
stems_replaced i write base old mid new s c r =
    let spares : r.spare ∷ new.spares ≡ old.spares = sym r.first ∙ ap (λ (b : BankSeen). b.spares) c.now in
    record {
      stems = λ port h.
          elim (In-append (slice_set old.serving i r.spare) new.spares port (subst (λ l. In (l ++ new.spares) port) (grind (arith, slice_set, set_twice)) h)) [
            | inl a ↦ elim (in_set old.serving i r.spare port a) [
              | inl e ↦ s.stems port (In-right old.serving old.spares port (subst (λ l. In l port) spares (inl e)))
              | inr b ↦ s.stems port (In-left old.serving old.spares port b)
            ]
            | inr b ↦ s.stems port (In-right old.serving old.spares port (subst (λ l. In l port) spares (inr b)))
          ];
    }

-- a port that is left in a list was there
in_remove : (xs : List PortSeen) (i : ℕ) (x : PortSeen) → In (remove xs i) x → In xs x
in_remove [] zero x h = h
in_remove [] (suc i) x h = h
in_remove (z ∷ zs) zero x h = inr h
in_remove (z ∷ zs) (suc i) x (inl e) = inl e
in_remove (z ∷ zs) (suc i) x (inr r) = inr (in_remove zs i x r)

stems_retired : (i : ℕ) (write : Write) (base old mid new : BankSeen) → Stems base old → Called i write false old mid → Retired i mid new → Stems base new
stems_retired i write base old mid new s c r = grind (arith, set_removed, append-nil, in_remove)

-- which ports moved, and why
record Moved (old new : BankSeen) : Type 0 where
  moved : List PortSeen
  behind : new.failed ≡ old.failed ++ moved
  cause : (port : PortSeen) → In moved port → (before : PortSeen) × In (old.serving ++ old.spares) before × (port.faults ≡ raised before.faults 1)

-- both facts of a send
record Traces (old new : BankSeen) : Type 0 where
  stems : Stems old new
  moves : Moved old new

with_cause : (old new : BankSeen) → Stems old new → Moved old new → MovesWithCause old new
with_cause old new s m = record { moved = m.moved; behind = m.behind; cause = m.cause; stay = s.stems }

-- the port that was moved is the one that failed
moved_one : (i : ℕ) (write : Write) (base old mid new : BankSeen) (port : PortSeen) → Stems base old → Moved base old → (c : Called i write false old mid) →
    slice_get mid.serving i ≡ Some port → new.failed ≡ mid.failed ++ port ∷ [] → Moved base new
moved_one i write base old mid new port s m c was e =
    let t = s.stems c.before (In-left old.serving old.spares c.before (In-get old.serving i c.before c.was)) in
    let same : c.after ≡ port = same_Some c.after port (sym (set_here old.serving i c.after (slice_get_within old.serving i c.before c.was)) ∙ (sym (ap (λ (b : BankSeen). slice_get b.serving i) c.now) ∙ was)) in
    let once : port.faults ≡ raised t.0.faults 1 = ap (λ (q : PortSeen). q.faults) (sym same) ∙ (c.answered.faults ∙ ap (λ n. raised n 1) t.2) in
    record {
      moved = m.moved ++ port ∷ [];
      behind = e ∙ (ap (λ l. l ++ port ∷ []) (ap (λ (b : BankSeen). b.failed) c.now ∙ m.behind) ∙ append_assoc base.failed m.moved (port ∷ []));
      cause = λ q h. elim (In-append m.moved (port ∷ []) q h) [
        | inl a ↦ m.cause q a
        | inr b ↦ elim b [
          | inl g ↦ subst (λ (x : PortSeen). (before : PortSeen) × In (base.serving ++ base.spares) before × (x.faults ≡ raised before.faults 1)) (sym g) (t.0, t.1, once)
          | inr n ↦ absurd n
        ]
      ];
    }

traces : {w : ℕ} {config : List Bool} {writes : List Write} {old : BankSeen} {answers : List Bool} {left : List Write} {new : BankSeen} →
    Sends w config writes old answers left new → Traces old new
traces {old = old} start = record { stems = record { stems = λ port h. (port, h, refl) }; moves = record { moved = []; behind = sym (append-nil old.failed); cause = λ port h. absurd h } }
traces {w} {old = old} (accepted {write = write} {mid = mid} {new = new} s c) =
    let t = traces s in
    record {
      stems = stems_called (region_of w write) write old mid new t.stems c;
      moves = record { moved = t.moves.moved; behind = ap (λ (b : BankSeen). b.failed) c.now ∙ t.moves.behind; cause = t.moves.cause };
    }
traces {w} {old = old} (replaced {write = write} {mid = mid} {next = next} {new = new} s c r) =
    let t = traces s in
    record {
      stems = stems_replaced (region_of w write) write old mid next new t.stems c r;
      moves = moved_one (region_of w write) write old mid next new r.port t.stems t.moves c r.was (ap (λ (b : BankSeen). b.failed) r.now);
    }

pub moves_with_cause : {w : ℕ} {config : List Bool} {writes : List Write} {old : BankSeen} {answers : List Bool} {left : List Write} {new : BankSeen} →
    Sends w config writes old answers left new → MovesWithCause old new
moves_with_cause {old = old} {new = new} s = let t = traces s in with_cause old new t.stems t.moves

pub loses_with_cause : {w : ℕ} {config : List Bool} {writes : List Write} {old : BankSeen} {i : ℕ} {new : BankSeen} → Loses w config writes old i new → MovesWithCause old new
loses_with_cause {w} {old = old} {new = new} l =
    let t = traces l.sends in
    with_cause old new (stems_retired (region_of w l.write) l.write old l.mid l.next new t.stems l.failed l.retired)
    (moved_one (region_of w l.write) l.write old l.mid l.next new l.retired.port t.stems t.moves l.failed l.retired.was (ap (λ (b : BankSeen). b.failed) l.retired.now))
