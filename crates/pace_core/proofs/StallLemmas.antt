-- How long a change stalls the circuit, and what a device is behind by, once a wanted bit turns, or a mark is taken.
use Rattle.pace_core.proofs.Common.{◌≡◌, ℕ, zero, suc, ◌+◌, ◌-◌, ◌*◌, ◌<◌, ◌≤◌, Bool, List, [], ◌∷◌, length, take, Some, slice_get, refl, sym, ap, ◌∙◌, subst, arith, none-some, same_Some, Write, written, length-written, PackValue, IsConf, differences, PaceValue, Ask, Tick, AreTicks, IsStall, IsCycled, HasStalls, ◌⊎◌, true, false, not, ◌++◌, map, replicate, slice_set, inl, inr, append-nil, append_assoc, filter, range_with_len, cases_Bool, false≢true, length-set, length-replicate, get_or-set_same, get_or-set_other, take_all, take_at, same_or, xor, config_bit, differs_at, write_of, none_marked, xor-same, xor-false, BacklogValue, IsBehind, with_write, IsCaughtUp, IsCatchingUp}
use Rattle.std.proofs.Math.Nat.{suc-mul, zero-mul}
use Rattle.machine.specs.Machine.{none as no_tick, more as a_tick}
use Rattle.pace_core.specs.Pace.{PacerValue, Shown, IsTicked, steps, waits, ArePaced}
use Rattle.pace_core.proofs.DifferenceLemmas.{no_own_differences, left_count, one_more, first_is, differing, length-differences, differences_few, differs_some, differs_nowhere, written_fails, written_agrees, wanted_agrees, written-append, xor-true}
use Rattle.dirty_idx.specs.Marks.{is_marked, IsLeast, IsEmpty}

-- a machine of this pack, these values and this rate, whose device differs from a configuration at so many addresses
pub record Stands (pack : PackValue) (params : List Bool) (rate : ℕ) (wanted : List Bool) (pacer : PacerValue) (behind : ℕ) : Type 0 where
  pub pack_is : pacer.pack ≡ pack
  pub params_are : pacer.params ≡ params
  pub rate_is : pacer.rate ≡ rate
  pub same : length pacer.config ≡ length wanted
  pub behind_by : behind ≡ length (differences pacer.config wanted)

-- one write or more is taken where there is one
take_some : (count : ℕ) (ws : List Write) → 0 < count → 0 < length ws → 0 < length (take count ws)
take_some (suc count) (w ∷ ws) c l = omega arith
take_some count ws c l = absurd (omega arith)

-- no more are than are asked for
take_few : (count : ℕ) (ws : List Write) → length (take count ws) ≤ count
take_few (suc count) (w ∷ ws) = let f : length (take count ws) ≤ count = take_few count ws in omega arith
take_few count ws = omega arith

module _ (pack : PackValue) (params : List Bool) (rate : ℕ) (wanted : List Bool) (takes : 1 ≤ rate) (only : (others : List Bool) → IsConf pack params others → others ≡ wanted) where
  -- no other configuration is wanted of such a machine
  only_of : (pacer : PacerValue) (behind : ℕ) → Stands pack params rate wanted pacer behind → (others : List Bool) → IsConf pacer.pack pacer.params others → others ≡ wanted
  only_of pacer behind stands others conf = only others (subst (λ (p : PackValue). IsConf p params others) stands.pack_is (subst (λ (ps : List Bool). IsConf pacer.pack ps others) stands.params_are conf))

  -- what a tick leaves
  pub next_stands : (pacer next : PacerValue) (behind : ℕ) (values : List Bool) (one : Shown) → Stands pack params rate wanted pacer behind → IsTicked values pacer next one → Stands pack params rate wanted next (behind - rate)
  next_stands pacer next behind values one stands (steps s) = subst (λ (p : PacerValue). Stands pack params rate wanted p (behind - rate)) (sym s.becomes) (record {
    pack_is = stands.pack_is;
    params_are = stands.params_are;
    rate_is = stands.rate_is;
    same = stands.same;
    behind_by =
        let is : pacer.config ≡ wanted = only_of pacer behind stands pacer.config s.right in
        omega (arith, stands.behind_by, ap (λ (c : List Bool). length (differences c wanted)) is ∙ no_own_differences wanted);
  })
  next_stands pacer next behind values one stands (waits w) = subst (λ (p : PacerValue). Stands pack params rate wanted p (behind - rate)) (sym w.becomes) (record {
    pack_is = stands.pack_is;
    params_are = stands.params_are;
    rate_is = stands.rate_is;
    same = length-written (take pacer.rate (differences pacer.config w.wanted)) pacer.config ∙ stands.same;
    behind_by =
        let is : w.wanted ≡ wanted = only_of pacer behind stands w.wanted w.conf in
        let left : length (differences (written pacer.config (take pacer.rate (differences pacer.config w.wanted))) wanted) ≡ length (differences pacer.config wanted) - pacer.rate =
        ap (λ (c : List Bool). length (differences (written pacer.config (take pacer.rate (differences pacer.config c))) wanted)) is ∙ left_count pacer.rate pacer.config wanted stands.same in
        omega (arith, stands.behind_by, stands.rate_is);
  })

  -- it waits where the device is behind
  pub tick_waits : (pacer next : PacerValue) (behind : ℕ) (values : List Bool) (one : Shown) → Stands pack params rate wanted pacer behind → IsTicked values pacer next one → 0 < behind → IsStall rate one
  tick_waits pacer next behind values one stands (steps s) some =
      let is : pacer.config ≡ wanted = only_of pacer behind stands pacer.config s.right in
      let none : length (differences pacer.config wanted) ≡ 0 = ap (λ (c : List Bool). length (differences c wanted)) is ∙ no_own_differences wanted in
      let b : behind ≡ length (differences pacer.config wanted) = stands.behind_by in
      absurd (omega arith)
  tick_waits pacer next behind values one stands (waits w) some =
      let r : pacer.rate ≡ rate = stands.rate_is in
      let t : 0 < length (take pacer.rate (differences pacer.config w.wanted)) = take_some pacer.rate (differences pacer.config w.wanted) (omega arith) w.behind in
      let f : length (take pacer.rate (differences pacer.config w.wanted)) ≤ pacer.rate = take_few pacer.rate (differences pacer.config w.wanted) in
      subst (IsStall rate) (sym w.shows) (t, omega arith)

  -- else it is a cycle
  pub tick_cycles : (pacer next : PacerValue) (behind : ℕ) (values : List Bool) (one : Shown) → Stands pack params rate wanted pacer behind → IsTicked values pacer next one → behind ≡ 0 → IsCycled one
  tick_cycles pacer next behind values one stands (steps s) none = subst IsCycled (sym s.shows) tt
  tick_cycles pacer next behind values one stands (waits w) none =
      let is : w.wanted ≡ wanted = only_of pacer behind stands w.wanted w.conf in
      let e : length (differences pacer.config w.wanted) ≡ length (differences pacer.config wanted) = ap (λ (c : List Bool). length (differences pacer.config c)) is in
      let b : behind ≡ length (differences pacer.config wanted) = stands.behind_by in
      let some : 0 < length (differences pacer.config w.wanted) = w.behind in
      absurd (omega arith)

  -- the ticks of the numbers that are below what it is behind by wait
  pub ticks_wait : {ticks : List PaceValue} {shown : List Shown} (pacer : PacerValue) {new : PacerValue} (behind : ℕ) → Stands pack params rate wanted pacer behind → AreTicks ticks → ArePaced pacer ticks shown new
      → (i : ℕ) (one : Shown) → slice_get shown i ≡ Some one → i * rate < behind → IsStall rate one
  ticks_wait pacer behind stands ticks no_tick i one at below = absurd (none-some one at)
  ticks_wait pacer behind stands ticks (a_tick (Ask assigns) first mid here rest) i one at below = elim ticks [ ]
  ticks_wait pacer behind stands ticks (a_tick (Tick values) first mid here rest) zero one at below =
      subst (IsStall rate) (same_Some first one at) (tick_waits pacer mid behind values first stands here (let z : 0 * rate ≡ 0 = zero-mul rate in omega arith))
  ticks_wait pacer behind stands ticks (a_tick (Tick values) first mid here rest) (suc i) one at below =
      let n : suc i * rate ≡ i * rate + rate = suc-mul i rate in
      ticks_wait mid (behind - rate) (next_stands pacer mid behind values first stands here) ticks rest i one at (omega arith)

  -- the later ones are cycles
  pub ticks_cycle : {ticks : List PaceValue} {shown : List Shown} (pacer : PacerValue) {new : PacerValue} (behind : ℕ) → Stands pack params rate wanted pacer behind → AreTicks ticks → ArePaced pacer ticks shown new
      → (i : ℕ) (one : Shown) → slice_get shown i ≡ Some one → behind ≤ i * rate → IsCycled one
  ticks_cycle pacer behind stands ticks no_tick i one at past = absurd (none-some one at)
  ticks_cycle pacer behind stands ticks (a_tick (Ask assigns) first mid here rest) i one at past = elim ticks [ ]
  ticks_cycle pacer behind stands ticks (a_tick (Tick values) first mid here rest) zero one at past =
      subst IsCycled (same_Some first one at) (tick_cycles pacer mid behind values first stands here (let z : 0 * rate ≡ 0 = zero-mul rate in omega arith))
  ticks_cycle pacer behind stands ticks (a_tick (Tick values) first mid here rest) (suc i) one at past =
      let n : suc i * rate ≡ i * rate + rate = suc-mul i rate in
      ticks_cycle mid (behind - rate) (next_stands pacer mid behind values first stands here) ticks rest i one at (omega arith)

-- so a change stalls the circuit
pub has_stalls : (pacer : PacerValue) (wanted : List Bool) (behind : ℕ) → 1 ≤ pacer.rate → ((others : List Bool) → IsConf pacer.pack pacer.params others → others ≡ wanted)
    → length pacer.config ≡ length wanted → behind ≡ length (differences pacer.config wanted) → HasStalls pacer behind
has_stalls pacer wanted behind takes only same behind_by =
    let stands : Stands pacer.pack pacer.params pacer.rate wanted pacer behind = record { pack_is = refl; params_are = refl; rate_is = refl; same = same; behind_by = behind_by } in
    record {
      stalls = λ ticks shown new are paced i one at below. ticks_wait pacer.pack pacer.params pacer.rate wanted takes only pacer behind stands are paced i one at below;
      cycles = λ ticks shown new are paced i one at past. ticks_cycle pacer.pack pacer.params pacer.rate wanted takes only pacer behind stands are paced i one at past;
    }

-- a bit differs from the other one
xor-not : (a b : Bool) → a ≡ not b → xor a b ≡ true
xor-not true true e = absurd (false≢true (sym e))
xor-not false false e = absurd (false≢true e)
xor-not a b e = refl

-- the other one's other one
not-twice : (b : Bool) → not (not b) ≡ b
not-twice true = refl
not-twice false = refl

-- a device is behind by nothing where it has what is wanted
pub behind_nothing : (config : List Bool) → IsBehind (record { config = config; marks = replicate (length config) false; waiting = 0; writes = []; looks = 0 }) config
behind_nothing config = record {
  same = refl;
  marks = length-replicate (length config) false;
  marked = λ a d. absurd (false≢true (sym (differs_nowhere config a) ∙ d));
  only = λ a m. absurd (false≢true (sym (none_marked (length config) a) ∙ m));
  waiting = sym (no_own_differences config);
}

-- a device that is behind by some bit has a mark
pub empty_waits : (b : BacklogValue) (wanted : List Bool) → IsBehind b wanted → IsEmpty b.marks → b.waiting ≡ 0
empty_waits b wanted behind empty = behind.waiting ∙ length-differences b.config wanted ∙ ap length (none_differ (range_with_len 0 (length wanted)))
  where
    -- no address differs
    none_at : (a : ℕ) → differs_at b.config wanted a ≡ false
    none_at a = elim (cases_Bool (differs_at b.config wanted a)) [ inl d ↦ absurd (false≢true (sym (empty.none a) ∙ behind.marked a d)) | inr n ↦ n ]

    -- so none of a list does
    none_differ : (ns : List ℕ) → filter (differs_at b.config wanted) ns ≡ []
    none_differ [] = refl
    none_differ (n ∷ ns) = rw (none_at n) (none_differ ns)

-- A wanted bit turns.
module _ (b : BacklogValue) (from : List Bool) (write : Write) (behind : IsBehind b from) (within : write.address < length from) (other : config_bit from write.address ≡ not write.bit) where
  -- as many bits are wanted as before
  same_length : length (slice_set from write.address write.bit) ≡ length from
  same_length = length-set from write.address write.bit

  -- the wanted bit is that of the write
  turned_bit : config_bit (slice_set from write.address write.bit) write.address ≡ write.bit
  turned_bit = get_or-set_same from write.address write.bit false within

  -- the address is marked: the device was behind there, and is no longer
  module _ (was : is_marked b.marks write.address ≡ true) where
    -- it differed there
    differed : differs_at b.config from write.address ≡ true
    differed = behind.only write.address was

    -- so it has the new value
    has : config_bit b.config write.address ≡ write.bit
    has = xor-true (config_bit b.config write.address) (config_bit from write.address) differed ∙ ap not other ∙ not-twice write.bit

    -- so it was behind somewhere
    pub turn_waits : 0 < b.waiting
    turn_waits = let s : 0 < length (differences b.config from) = differs_some b.config from write.address within differed in let w : b.waiting ≡ length (differences b.config from) = behind.waiting in omega arith

    -- it is behind at one address less
    pub one_behind_less : IsBehind (record b { marks = slice_set b.marks write.address false; waiting = b.waiting - 1; looks = b.looks + 1 }) (slice_set from write.address write.bit)
    one_behind_less = record {
      same = behind.same ∙ sym same_length;
      marks = length-set b.marks write.address false ∙ behind.marks ∙ sym same_length;
      marked = λ a d. elim (same_or a write.address) [
        | inl e ↦ absurd (false≢true (sym (ap (differs_at b.config (slice_set from write.address write.bit)) e ∙ differs_no_more) ∙ d))
        | inr n ↦ get_or-set_other b.marks write.address a false false n ∙ behind.marked a (sym (wanted_agrees b.config from write.address write.bit a n) ∙ d)
      ];
      only = λ a m. elim (same_or a write.address) [
        | inl e ↦ (let l : length b.marks ≡ length from = behind.marks in absurd (false≢true (sym (ap (is_marked (slice_set b.marks write.address false)) e ∙ get_or-set_same b.marks write.address false false (omega arith)) ∙ m)))
        | inr n ↦ wanted_agrees b.config from write.address write.bit a n ∙ behind.only a (sym (get_or-set_other b.marks write.address a false false n) ∙ m)
      ];
      waiting =
          let w : b.waiting ≡ length (differences b.config from) = behind.waiting in
          let m : length (differences b.config from) ≡ length (differing b.config from) = length-differences b.config from in
          let k : length (differences b.config (slice_set from write.address write.bit)) ≡ length (differing b.config (slice_set from write.address write.bit)) = length-differences b.config (slice_set from write.address write.bit) in
          let r : length (differing b.config (slice_set from write.address write.bit)) ≡ length (filter (differs_at b.config (slice_set from write.address write.bit)) (range_with_len 0 (length from))) =
          ap (λ n. length (filter (differs_at b.config (slice_set from write.address write.bit)) (range_with_len 0 n))) same_length in
          let o : length (differing b.config from) ≡ suc (length (filter (differs_at b.config (slice_set from write.address write.bit)) (range_with_len 0 (length from)))) =
          one_more (differs_at b.config from) (differs_at b.config (slice_set from write.address write.bit)) write.address differs_no_more (wanted_agrees b.config from write.address write.bit) differed (length from) 0 (omega arith) (omega arith) in
          omega arith;
    }
      where
        -- it no longer differs there
        differs_no_more : differs_at b.config (slice_set from write.address write.bit) write.address ≡ false
        differs_no_more = xor-same (config_bit b.config write.address) (config_bit (slice_set from write.address write.bit) write.address) (has ∙ sym turned_bit)

  -- it is not marked: the device was not behind there, and is now
  module _ (was : is_marked b.marks write.address ≡ false) where
    -- it did not differ there
    agreed : differs_at b.config from write.address ≡ false
    agreed = elim (cases_Bool (differs_at b.config from write.address)) [ inl d ↦ absurd (false≢true (sym was ∙ behind.marked write.address d)) | inr n ↦ n ]

    -- so it has the old value
    lacks : config_bit b.config write.address ≡ not write.bit
    lacks = xor-false (config_bit b.config write.address) (config_bit from write.address) agreed ∙ other

    -- it does now
    differs_now : differs_at b.config (slice_set from write.address write.bit) write.address ≡ true
    differs_now = xor-not (config_bit b.config write.address) (config_bit (slice_set from write.address write.bit) write.address) (lacks ∙ ap not (sym turned_bit))

    -- so one address more differs
    more : length (differences b.config (slice_set from write.address write.bit)) ≡ suc b.waiting
    more =
        let w : b.waiting ≡ length (differences b.config from) = behind.waiting in
        let m : length (differences b.config from) ≡ length (differing b.config from) = length-differences b.config from in
        let k : length (differences b.config (slice_set from write.address write.bit)) ≡ length (differing b.config (slice_set from write.address write.bit)) = length-differences b.config (slice_set from write.address write.bit) in
        let r : length (differing b.config (slice_set from write.address write.bit)) ≡ length (filter (differs_at b.config (slice_set from write.address write.bit)) (range_with_len 0 (length from))) =
        ap (λ n. length (filter (differs_at b.config (slice_set from write.address write.bit)) (range_with_len 0 n))) same_length in
        let o : length (filter (differs_at b.config (slice_set from write.address write.bit)) (range_with_len 0 (length from))) ≡ suc (length (differing b.config from)) =
        one_more (differs_at b.config (slice_set from write.address write.bit)) (differs_at b.config from) write.address agreed (λ n d. sym (wanted_agrees b.config from write.address write.bit n d)) differs_now (length from) 0 (omega arith) (omega arith) in
        omega arith

    -- it was not behind at every address
    pub turn_has_room : b.waiting < length b.config
    turn_has_room =
        let m : length (differences b.config (slice_set from write.address write.bit)) ≡ suc b.waiting = more in
        let f : length (differences b.config (slice_set from write.address write.bit)) ≤ length (slice_set from write.address write.bit) = differences_few b.config (slice_set from write.address write.bit) in
        let s : length (slice_set from write.address write.bit) ≡ length from = same_length in
        let l : length b.config ≡ length from = behind.same in
        omega arith

    -- it is behind at one address more
    pub one_behind_more : IsBehind (record b { marks = slice_set b.marks write.address true; waiting = b.waiting + 1; looks = b.looks + 1 }) (slice_set from write.address write.bit)
    one_behind_more = record {
      same = behind.same ∙ sym same_length;
      marks = length-set b.marks write.address true ∙ behind.marks ∙ sym same_length;
      marked = λ a d. elim (same_or a write.address) [
        | inl e ↦ (let l : length b.marks ≡ length from = behind.marks in ap (is_marked (slice_set b.marks write.address true)) e ∙ get_or-set_same b.marks write.address true false (omega arith))
        | inr n ↦ get_or-set_other b.marks write.address a true false n ∙ (behind.marked a (sym (wanted_agrees b.config from write.address write.bit a n) ∙ d))
      ];
      only = λ a m. elim (same_or a write.address) [
        | inl e ↦ ap (differs_at b.config (slice_set from write.address write.bit)) e ∙ differs_now
        | inr n ↦ wanted_agrees b.config from write.address write.bit a n ∙ behind.only a (sym (get_or-set_other b.marks write.address a true false n) ∙ m)
      ];
      waiting = let m : length (differences b.config (slice_set from write.address write.bit)) ≡ suc b.waiting = more in omega arith;
    }

-- The least mark is taken.
module _ (b : BacklogValue) (wanted : List Bool) (behind : IsBehind b wanted) (a : ℕ) (least : IsLeast b.marks a) where
  -- the other marks are still there
  taken_agrees : (n : ℕ) → (n ≡ a → ⊥) → is_marked (slice_set b.marks a false) n ≡ is_marked b.marks n
  taken_agrees n d = get_or-set_other b.marks a n false false d

  -- the address is one of the wanted bits
  pub least_within : a < length wanted
  least_within = let l : length b.marks ≡ length wanted = behind.marks in let w : a < length b.marks = least.within in omega arith

  -- the device has the other bit there
  has_other : config_bit b.config a ≡ not (config_bit wanted a)
  has_other = xor-true (config_bit b.config a) (config_bit wanted a) (behind.only a least.marked)

  -- this is the first difference, and the others are left
  first_to_last : differences b.config wanted ≡ write_of wanted a ∷ differences (slice_set b.config a (config_bit wanted a)) wanted
  first_to_last = ap (map (write_of wanted)) (first_is (differs_at b.config wanted) (differs_at (slice_set b.config a (config_bit wanted a)) wanted) a
      (written_fails b.config wanted a (let s : length b.config ≡ length wanted = behind.same in let w : a < length wanted = least_within in omega arith))
      (written_agrees b.config wanted a (config_bit wanted a)) (behind.only a least.marked)
      (λ n l. elim (cases_Bool (differs_at b.config wanted n)) [ inl d ↦ absurd (false≢true (sym (least.least n l) ∙ behind.marked n d)) | inr f ↦ f ])
      (length wanted) 0 (omega arith) (let w : a < length wanted = least_within in omega arith))

  -- the bit is sent, and the device is behind by the others
  pub mark_written : IsCaughtUp wanted b (with_write b a (config_bit wanted a))
  mark_written = record {
    behind = record {
      same = length-set b.config a (config_bit wanted a) ∙ behind.same;
      marks = length-set b.marks a false ∙ behind.marks;
      marked = λ n d. elim (same_or n a) [
        | inl e ↦ absurd (false≢true (sym (ap (differs_at (slice_set b.config a (config_bit wanted a)) wanted) e ∙ written_fails b.config wanted a (let s : length b.config ≡ length wanted = behind.same in let w : a < length wanted = least_within in omega arith)) ∙ d))
        | inr o ↦ taken_agrees n o ∙ behind.marked n (sym (written_agrees b.config wanted a (config_bit wanted a) n o) ∙ d)
      ];
      only = λ n m. elim (same_or n a) [
        | inl e ↦ absurd (false≢true (sym (ap (is_marked (slice_set b.marks a false)) e ∙ get_or-set_same b.marks a false false least.within) ∙ m))
        | inr o ↦ written_agrees b.config wanted a (config_bit wanted a) n o ∙ behind.only n (sym (taken_agrees n o) ∙ m)
      ];
      waiting = omega (arith, behind.waiting, ap length first_to_last);
    };
    sent = write_of wanted a ∷ [];
    one = refl;
    before = first_to_last;
    writes = refl;
    config = refl;
  }

  -- the bit that is sent is the other one of the device's
  pub mark_sent : (bit : Bool) → bit ≡ not (config_bit b.config a) → IsCaughtUp wanted b (with_write b a bit)
  mark_sent bit is = subst (λ v. IsCaughtUp wanted b (with_write b a v)) (sym (is ∙ ap not has_other ∙ not-twice (config_bit wanted a))) mark_written

-- what was written is all that may be, where nothing is left or the rate is reached
pub taken_first : (ws rest all : List Write) (rate : ℕ) → ws ++ rest ≡ all → length ws ≤ rate → (length rest ≡ 0) ⊎ (rate ≤ length ws) → ws ≡ take rate all
taken_first ws [] all rate e l end = sym (take_all rate ws l) ∙ ap (take rate) (sym (append-nil ws) ∙ e)
taken_first ws (w ∷ rest) all rate e l (inl none) = absurd (omega arith)
taken_first ws (w ∷ rest) all rate e l (inr m) = sym (take_at ws (w ∷ rest) rate (omega arith)) ∙ ap (take rate) e

-- one more of the differences is sent
pub catching_more : (wanted : List Bool) (old now next : BacklogValue) → IsCatchingUp wanted old now → IsCaughtUp wanted now next → IsCatchingUp wanted old next
catching_more wanted old now next come once = record {
  behind = once.behind;
  are =
      ap (λ ws. ws ++ differences next.config wanted) once.writes
      ∙ append_assoc now.writes once.sent (differences next.config wanted)
      ∙ ap (λ ws. now.writes ++ ws) (sym once.before)
      ∙ come.are;
  config =
      once.config
      ∙ ap (λ (config : List Bool). written config once.sent) come.config
      ∙ sym (written-append now.writes once.sent old.config)
      ∙ ap (written old.config) (sym once.writes);
}
