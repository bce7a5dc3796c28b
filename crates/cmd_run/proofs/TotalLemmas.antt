-- What the events of a case add up to fits its types: a change writes no more bits than the LUTs have, and the outputs of a cycle are a number of as many digits. Numbers are read from their highest digit down.
use Rattle.cmd_run.proofs.Common.{◌≡◌, ℕ, ◌+◌, ◌*◌, ◌^◌, ◌<◌, ◌≤◌, List, [], ◌∷◌, ◌++◌, length, take, refl, ap, ◌∙◌, subst, arith, length-append, length-map, length-take-le, length-range_with_len, number, length-filter_le, lits_of, value_of, Lit, TemplateValue, PackValue, Event, EventValue, event_value, event_values, Set, Cycle, differs_at, differences, write_of, SpecialiserValue, MachineValue, IsPlayed, writes_of, output_of, TalliedMachine, tally_machine, Totals, Passes, none, more, IsSmall, Bool, bit_value}
use Rattle.std.specs.List.{filter, range_with_len}
use Rattle.std.proofs.Math.Pow.{pow_mono}
use Rattle.std.proofs.lemmas.Nat.{pow_pos}
use Rattle.list_laws.proofs.Digits.{number-small}
use Rattle.tl_io.specs.declared.Assign.{Assign}
use Rattle.spec_core.specs.Events.{IsSet}
use Rattle.cmd_run.proofs.GenLemmas.{total_more}

-- one event
set_few : (assigns : List Assign) (old new : SpecialiserValue) → IsSet old.pack assigns old.state new.writes new.state → length new.writes ≤ length old.pack.bits
set_few assigns old new s =
    let places : List ℕ = range_with_len 0 (length s.to) in
    let are : length new.writes ≡ length (differences s.from s.to) = ap length s.are in
    let some : length (differences s.from s.to) ≡ length (filter (differs_at s.from s.to) places) = length-map (filter (differs_at s.from s.to) places) (write_of s.to) in
    let all : length (filter (differs_at s.from s.to) places) ≤ length places = length-filter_le (differs_at s.from s.to) places in
    let ranged : length places ≡ length s.to = length-range_with_len 0 (length s.to) in
    let bits : length s.to ≡ length old.pack.bits = ap length (s.after).are ∙ length-map (lits_of old.pack.bits) (value_of (s.after).values) ∙ length-map old.pack.bits (λ (l : Lit). l.0) in
    omega (arith, are, some, all, ranged, bits)

writes_few : (event : EventValue) (old new : MachineValue) → IsPlayed event old new → writes_of event new ≤ length old.host.pack.bits
writes_few (Set assigns) old new played = set_few assigns old.host new.host played.host.is
writes_few event old new played = omega arith

output_small : (event : EventValue) (old new : MachineValue) → IsPlayed event old new → output_of event new < 2 ^ length old.sim.template.outputs
output_small (Cycle values) old new played =
    let outputs : List Lit = old.sim.template.outputs in
    let same : length new.sim.outputs ≡ length outputs = ap length (played.clock).outputs_are ∙ length-map (lits_of outputs) (played.clock).value ∙ length-map outputs (λ (l : Lit). l.0) in
    subst (λ (k : ℕ). number new.sim.outputs < 2 ^ k) same (number-small new.sim.outputs)
output_small event old new played = pow_pos (length old.sim.template.outputs)

-- all of them
tallies_within : {old new : TalliedMachine} {events : List EventValue} {shown : List (Unit {0})} → Passes tally_machine old events shown new → length old.machine.host.pack.bits ≤ 2 ^ 25 → length old.machine.sim.template.outputs ≤ 66
    → (new.writes ≤ old.writes + 2 ^ 25 * length events) × (new.total ≤ old.total + 2 ^ 66 * length events)
tallies_within none few short = (omega arith, omega arith)
tallies_within {old} {new} (more event one mid is rest) few short =
    let played = is.0 in
    let pack : length mid.machine.host.pack.bits ≡ length old.machine.host.pack.bits = ap (λ (p : PackValue). length p.bits) played.host.pack in
    let template : length mid.machine.sim.template.outputs ≡ length old.machine.sim.template.outputs = ap (λ (t : TemplateValue). length t.outputs) played.template in
    let others = tallies_within rest (omega (arith, pack, few)) (omega (arith, template, short)) in
    let written : writes_of event mid.machine ≤ length old.machine.host.pack.bits = writes_few event old.machine mid.machine played in
    let put : output_of event mid.machine < 2 ^ length old.machine.sim.template.outputs = output_small event old.machine mid.machine played in
    let most : 2 ^ length old.machine.sim.template.outputs ≤ 2 ^ 66 = pow_mono short in
    let writes : mid.writes ≡ old.writes + writes_of event mid.machine = is.1 in
    let total : mid.total ≡ old.total + output_of event mid.machine = is.2 in
    (omega (arith, others.0, writes, written, few), omega (arith, others.1, total, put, most))

-- so those up to each of them
pub next_fits : (m : MachineValue) (events : List Event) (i : ℕ) (item : Event) → IsSmall (event_values events) m → i < length events → {mid : MachineValue} {writes total : ℕ} (new : MachineValue) → Totals m (event_values (take i events)) writes total mid
    → IsPlayed (event_value item) mid new → (writes + writes_of (event_value item) new < 2 ^ 64) × (total + output_of (event_value item) new < 2 ^ 128)
next_fits m events i item small here {writes = writes} {total = total} new totals played =
    let event : EventValue = event_value item in
    let first : List EventValue = event_values (take i events) in
    let within = tallies_within (total_more new event (writes + writes_of event new) (total + output_of event new) totals played refl refl).passes small.bits small.outputs in
    let count : length (first ++ event ∷ []) ≡ length first + 1 = length-append first (event ∷ []) in
    let before : length first ≡ i = length-map (take i events) event_value ∙ length-take-le i events (omega (arith, here)) in
    let all : length (event_values events) ≡ length events = length-map events event_value in
    let few : length (event_values events) ≤ 2 ^ 20 = small.few in
    (omega (arith, within.0, count, before, all, few, here), omega (arith, within.1, count, before, all, few, here))

-- the number with these digits below those of another number
abbrev pub number_below : ℕ → List Bool → ℕ
number_below n [] = n
number_below n (b ∷ bs) = bit_value b + 2 * number_below n bs

pub below_zero : (bs : List Bool) → number_below 0 bs ≡ number bs
below_zero [] = refl
below_zero (b ∷ bs) = ap (λ n. bit_value b + 2 * n) (below_zero bs)

pub below_none : (n : ℕ) (bs : List Bool) → length bs ≡ 0 → number_below n bs ≡ n
below_none n [] is = refl
below_none n (b ∷ bs) is = absurd (omega arith)

-- the highest of these digits may be one of the other number
pub below_last : (n : ℕ) (bs : List Bool) (b : Bool) → number_below n (bs ++ b ∷ []) ≡ number_below (bit_value b + 2 * n) bs
below_last n [] b = refl
below_last n (c ∷ bs) b = ap (λ m. bit_value c + 2 * m) (below_last n bs b)

-- it is the other number at least
pub below_more : (n : ℕ) (bs : List Bool) → n ≤ number_below n bs
below_more n [] = omega arith
below_more n (b ∷ bs) = let most : n ≤ number_below n bs = below_more n bs in omega arith
