-- A netlist without hierarchy is sound where each name that is read has one driver, and its covers can be put in order.
use Rattle.blif_write.proofs.Common.{◌≡◌, ℕ, zero, suc, ◌<◌, Bool, true, false, ◌||◌, List, [], ◌∷◌, ◌++◌, length, map, slice_get, Some, refl, sym, ap, subst, ◌∙◌, inl, inr, arith, option_map, none-some, same_Some, slice_get-map, In, In-get, In-append, In-left, place_in, from_map, AreOnce, has_in, Body, Subckt, Command, LatchValue, CoverValue, SubcktValue, ModelValue, IsWellFormedBody, IsWellFormed, Path, subckts_of, CoverAt, cover_net, Drives, main_input, latch_output, cover_output, from_inside, from_outside, Place, IsData, cover_data, latch_data, IsSound, and_parts, apart_once, right_apart, not_in_both, Cover, Latch, PlainNetlist, IsPlain, all_inputs, read_latch, model_of, library_of, rules}
use Rattle.netlist.specs.Loops.{ReadsCover, Depends, direct, through}
use Rattle.netlist.specs.Drivers.{Driver, by_input, by_latch, by_cover, IsDriver, input, latch, cover, output, IsRead, cover_input, latch_input, latch_control, input_actual, model_output, Ends, ends, IsDriven}
use Rattle.blif_write.proofs.DenoteLemmas.{ports_once}
use Rattle.blif_write.proofs.PlainCycleLemmas.{bodies_of, body_got, body_is, no_subckts, none_placed, only_top, cover_body, latch_body, cover_there, latch_there, no_connection, IsControlName, input_is, main_there, driven_by_input, control_there, clock_there}

-- the name that a command drives
abbrev pub body_output : Body → List ℕ
body_output (Cover c) = c.output
body_output (Latch l) = l.output
body_output (Subckt s) = []

abbrev pub command_outputs : PlainNetlist → List (List ℕ)
command_outputs n = map body_output (bodies_of n)

-- Each name that is read is driven, once; no control is read as data; and a cover's inputs have a lower rank than its output.
pub record IsOrderly (n : PlainNetlist) : Type 0 where
  pub plain : IsPlain n
  pub once : AreOnce (all_inputs n ++ command_outputs n)
  pub cover_inputs : (c : CoverValue) → In n.covers c → (name : List ℕ) → In c.inputs name → In (all_inputs n ++ command_outputs n) name × (IsControlName n name → ⊥)
  pub latch_inputs : (l : LatchValue) → In n.latches l → In (all_inputs n ++ command_outputs n) l.input × (IsControlName n l.input → ⊥)
  pub outputs : (name : List ℕ) → In n.outputs name → In (all_inputs n ++ command_outputs n) name × (IsControlName n name → ⊥)
  pub controls : (name : List ℕ) → IsControlName n name → In (all_inputs n) name
  pub one_control : (name other : List ℕ) → IsControlName n name → IsControlName n other → name ≡ other
  pub rank : List ℕ → ℕ
  pub falls : (c d : CoverValue) → In n.covers c → In n.covers d → In c.inputs d.output → rank d.output < rank c.output

output_at : (n : PlainNetlist) (i : ℕ) (name : List ℕ) (body : Body) → slice_get (bodies_of n) i ≡ Some body → body_output body ≡ name → slice_get (command_outputs n) i ≡ Some name
output_at n i name body e o = slice_get-map body_output (bodies_of n) i ∙ ap (option_map body_output) e ∙ ap Some o

-- what drives the output of a command
abbrev driver_of : ℕ → Body → Driver
driver_of i (Cover c) = by_cover i
driver_of i (Latch l) = by_latch i
driver_of i (Subckt s) = by_input

-- a name of the one instance is driven by an input or by a command
data Drivers (n : PlainNetlist) (name : List ℕ) (driver : Driver) : Type 0 where
  an_input : In (all_inputs n) name → driver ≡ by_input → Drivers n name driver
  a_command : (i : ℕ) (body : Body) → slice_get (bodies_of n) i ≡ Some body → body_output body ≡ name → driver ≡ driver_of i body → Drivers n name driver

or_false : (b : Bool) → (b || false) ≡ true → b ≡ true
or_false b h = search rules

pub mapped : (bodies : List Body) (i : ℕ) (name : List ℕ) → slice_get (map body_output bodies) i ≡ Some name → (body : Body) × (slice_get bodies i ≡ Some body) × (body_output body ≡ name)
mapped [] i name e = absurd (none-some name e)
mapped (body ∷ bodies) zero name e = (body, refl, same_Some (body_output body) name e)
mapped (body ∷ bodies) (suc i) name e = mapped bodies i name e

driver_there : (n : PlainNetlist) (path : Path) (name : List ℕ) (driver : Driver) → IsDriver (library_of n) path name driver → Drivers n name driver
driver_there n path name driver (input at t e) = grind (arith, only_top, has_in, or_false)
driver_there n path name driver (latch i l at o e) = a_command i (Latch l) (latch_body n path i l at).1 (sym o) e
driver_there n path name driver (cover i c at o e) = a_command i (Cover c) (cover_body n path i c at).1 (sym o) e
driver_there n path name driver (output k pair at t o e) = absurd (no_connection n path k pair at)

one_driver : (n : PlainNetlist) → IsOrderly n → (name : List ℕ) (driver other : Driver) → Drivers n name driver → Drivers n name other → driver ≡ other
one_driver n h name driver other (an_input i e) (an_input j f) = e ∙ sym f
one_driver n h name driver other (an_input i e) (a_command j b at o f) = absurd (not_in_both (all_inputs n) (command_outputs n) name h.once i (In-get (command_outputs n) j name (output_at n j name b at o)))
one_driver n h name driver other (a_command j b at o f) (an_input i e) = absurd (not_in_both (all_inputs n) (command_outputs n) name h.once i (In-get (command_outputs n) j name (output_at n j name b at o)))
one_driver n h name driver other (a_command i b at o f) (a_command j d there p e) =
    let same : i ≡ j = apart_once (command_outputs n) i j name (right_apart (all_inputs n) (command_outputs n) h.once) (output_at n i name b at o) (output_at n j name d there p) in
    f ∙ ap (driver_of i) (same_Some b d (sym at ∙ ap (slice_get (bodies_of n)) same ∙ there)) ∙ ap (λ (k : ℕ). driver_of k d) same ∙ sym e

-- what is driven has a driver
body_driver : (n : PlainNetlist) (i : ℕ) (name : List ℕ) (body : Body) → slice_get (bodies_of n) i ≡ Some body → body_output body ≡ name → (driver : Driver) × IsDriver (library_of n) [] name driver
body_driver n i name (Cover c) e o = (by_cover i, cover i c (record { model = model_of n; at = refl; is = body_is n i ∙ e }) (sym o) refl)
body_driver n i name (Latch l) e o = (by_latch i, latch i l (record { model = model_of n; at = refl; is = body_is n i ∙ e }) (sym o) refl)
body_driver n i name (Subckt s) e o = absurd (body_got n.latches n.covers i (Subckt s) e)

has_driver : (n : PlainNetlist) (name : List ℕ) → In (all_inputs n ++ command_outputs n) name → (driver : Driver) × IsDriver (library_of n) [] name driver
has_driver n name i = elim (In-append (all_inputs n) (command_outputs n) name i) [
  | inl j ↦ (by_input, input (record { model = model_of n; at = refl }) (input_is n name j) refl)
  | inr j ↦ let at : (k : ℕ) × (slice_get (command_outputs n) k ≡ Some name) = place_in (command_outputs n) name j in
      let got : (body : Body) × (slice_get (bodies_of n) at.0 ≡ Some body) × (body_output body ≡ name) = mapped (bodies_of n) at.0 name at.1 in
      body_driver n at.0 name got.0 got.1 got.2
]

-- no cover depends on itself
pub cover_drives : (n : PlainNetlist) (path : Path) (name : List ℕ) (q : Path) (i : ℕ) → Drives (library_of n) path name (cover_net q i) → (d : CoverValue) × CoverAt (library_of n) q i d × (name ≡ d.output)
cover_drives n path name q i (main_input p m e) = absurd (let wrong : ⊥ = cc in wrong)
cover_drives n path name q i (latch_output j l at o e) = absurd (let wrong : ⊥ = cc in wrong)
cover_drives n path name q i (cover_output j c at o e) = grind arith
cover_drives n path name q i (from_inside k pair at t o d) = absurd (no_connection n path k pair at)
cover_drives n path name q i (from_outside k outer pair at t p o d) = absurd (no_connection n outer k pair at)

-- a cover and one that it depends on, of a lower rank
record Falls (n : PlainNetlist) (h : IsOrderly n) (p q : Place) : Type 0 where
  upper : CoverValue
  lower : CoverValue
  upper_at : CoverAt (library_of n) p.path p.command upper
  lower_at : CoverAt (library_of n) q.path q.command lower
  falls : h.rank lower.output < h.rank upper.output

same_cover : (n : PlainNetlist) (path : Path) (i : ℕ) (c d : CoverValue) → CoverAt (library_of n) path i c → CoverAt (library_of n) path i d → c ≡ d
same_cover n path i c d a b = let e : Some (Cover c) ≡ Some (Cover d) = sym (cover_body n path i c a).1 ∙ (cover_body n path i d b).1 in let same : c ≡ d = cc in same

read_falls : (n : PlainNetlist) (h : IsOrderly n) (p q : Place) → ReadsCover (library_of n) p q → Falls n h p q
read_falls n h p q r =
    let d : (d : CoverValue) × CoverAt (library_of n) q.path q.command d × (r.name ≡ d.output) = cover_drives n p.path r.name q.path q.command r.drives in
    record {
      upper = r.cover;
      lower = d.0;
      upper_at = r.is;
      lower_at = d.1;
      falls = h.falls r.cover d.0 (cover_there n p.path p.command r.cover r.is).1 (cover_there n q.path q.command d.0 d.1).1 (subst (In r.cover.inputs) d.2 r.input);
    }

depends_falls : (n : PlainNetlist) (h : IsOrderly n) (p q : Place) → Depends (library_of n) p q → Falls n h p q
depends_falls n h p q (direct r) = read_falls n h p q r
depends_falls n h p q (through between r d) =
    let a : Falls n h p between = read_falls n h p between r in
    let b : Falls n h between q = depends_falls n h between q d in
    let lower : h.rank a.lower.output ≡ h.rank b.upper.output = ap (λ (c : CoverValue). h.rank c.output) (same_cover n between.path between.command a.lower b.upper a.lower_at b.upper_at) in
    record { upper = a.upper; lower = b.lower; upper_at = a.upper_at; lower_at = b.lower_at; falls = omega (arith, a.falls, b.falls, lower) }

no_loop : (n : PlainNetlist) (h : IsOrderly n) (p : Place) → Depends (library_of n) p p → ⊥
no_loop n h p d =
    let f : Falls n h p p = depends_falls n h p p d in
    omega (arith, f.falls, ap (λ (c : CoverValue). h.rank c.output) (same_cover n p.path p.command f.upper f.lower f.upper_at f.lower_at))

-- well formed
body_formed : (n : PlainNetlist) → IsPlain n → (body : Body) → In (bodies_of n) body → IsWellFormedBody body
body_formed n h body i = elim (In-append (map (λ (l : LatchValue). Latch (read_latch l)) n.latches) (map (λ (c : CoverValue). Cover c) n.covers) body i) [
  | inl j ↦ let r : (l : LatchValue) × In n.latches l × (body ≡ Latch (read_latch l)) = from_map (λ (l : LatchValue). Latch (read_latch l)) n.latches body j in subst IsWellFormedBody (sym r.2) tt
  | inr j ↦ let r : (c : CoverValue) × In n.covers c × (body ≡ Cover c) = from_map (λ (c : CoverValue). Cover c) n.covers body j in subst IsWellFormedBody (sym r.2) (h.cells r.0 r.1)
]

command_formed : (n : PlainNetlist) → IsPlain n → (command : Command) → In (model_of n).commands command → IsWellFormedBody command.body
command_formed n h command i =
    let at : (k : ℕ) × (slice_get (model_of n).commands k ≡ Some command) = place_in (model_of n).commands command i in
    body_formed n h command.body (In-get (bodies_of n) at.0 command.body (sym (body_is n at.0) ∙ ap (option_map (λ (c : Command). c.body)) at.1))

plain_formed : (n : PlainNetlist) → IsPlain n → IsWellFormed (library_of n)
plain_formed n h = search (rules, ports_once, command_formed)

-- drivers
no_child : (k : ℕ) (path : Path) → k ∷ path ≡ [] → ⊥
no_child k path e = let l : length (k ∷ path) ≡ length {A = ℕ} [] = ap length e in omega (arith, l)

read_there : (n : PlainNetlist) → IsOrderly n → (path : Path) (name : List ℕ) → IsRead (library_of n) path name → (path ≡ []) × In (all_inputs n ++ command_outputs n) name
read_there n h path name (cover_input i c at j) = let t : (path ≡ []) × In n.covers c = cover_there n path i c at in (t.0, (h.cover_inputs c t.1 name j).0)
read_there n h path name (latch_input i l at e) =
    let t : (path ≡ []) × ((k : LatchValue) × (slice_get n.latches i ≡ Some k) × (l ≡ read_latch k)) = latch_there n path i l at in
    (t.0, subst (In (all_inputs n ++ command_outputs n)) (sym (e ∙ ap (λ (m : LatchValue). m.input) t.1.2)) (h.latch_inputs t.1.0 (In-get n.latches i t.1.0 t.1.1)).0)
read_there n h path name (latch_control i l at e) =
    let t : (path ≡ []) × IsControlName n name = control_there n path i l name at e in
    (t.0, In-left (all_inputs n) (command_outputs n) name (h.controls name t.1))
read_there n h path name (input_actual k pair at t e) = absurd (no_connection n path k pair at)
read_there n h path name (model_output m at o) = grind (arith, only_top, has_in, and_parts)

plain_driven : (n : PlainNetlist) → IsOrderly n → IsDriven (library_of n)
plain_driven n h = record {
  known = λ path m k s at e. absurd (none-some s (sym (ap (λ (t : List SubcktValue). slice_get t k) (ap (λ (o : ModelValue). subckts_of o.commands) (only_top n path m at).1 ∙ no_subckts n)) ∙ e));
  finite = λ path m at. subst (Ends (library_of n)) (sym (only_top n path m at).1) (ends (λ k child e. absurd (none-some child (sym (none_placed n k) ∙ e))));
  formals = λ path k pair at. absurd (no_connection n path k pair at);
  apart = λ path k pair other at. absurd (no_connection n path k pair at);
  connected = λ path k m name at i. absurd (no_child k path (only_top n (k ∷ path) m at).0);
  once = λ path name driver other a b. one_driver n h name driver other (driver_there n path name driver a) (driver_there n path name other b);
  driven = λ path name r.
      let t : (path ≡ []) × In (all_inputs n ++ command_outputs n) name = read_there n h path name r in
      subst (λ (p : Path). (driver : Driver) × IsDriver (library_of n) p name driver) (sym t.0) (has_driver n name t.1);
}

data_free : (n : PlainNetlist) → IsOrderly n → (path : Path) (name : List ℕ) → IsData (library_of n) path name → IsControlName n name → ⊥
data_free n h path name (cover_data i c at j) = (h.cover_inputs c (cover_there n path i c at).1 name j).1
data_free n h path name (latch_data i l at e) =
    let t : (path ≡ []) × ((k : LatchValue) × (slice_get n.latches i ≡ Some k) × (l ≡ read_latch k)) = latch_there n path i l at in
    subst (λ (m : List ℕ). IsControlName n m → ⊥) (sym (e ∙ ap (λ (m : LatchValue). m.input) t.1.2)) (h.latch_inputs t.1.0 (In-get n.latches i t.1.0 t.1.1)).1

pub plain_sound : (n : PlainNetlist) → IsOrderly n → IsSound (library_of n)
plain_sound n h = record {
  formed = plain_formed n h.plain;
  main = model_of n;
  at = refl;
  driven = plain_driven n h;
  control_input = λ path i l control at e.
      let t : (path ≡ []) × IsControlName n control = control_there n path i l control at e in
      (control, main_input t.0 (main_there n control (h.controls control t.1)) refl);
  one_control = λ path other i j l r control second name last at bt e f d g.
      sym (driven_by_input n path control name d) ∙ h.one_control control second (control_there n path i l control at e).1 (control_there n other j r second bt f).1 ∙ driven_by_input n other second last g;
  no_clock_data = λ path name net read d clock.
      data_free n h path name read (subst (IsControlName n) (sym (driven_by_input n path name net d)) (clock_there n net clock));
  no_clock_output = λ name net i d clock.
      (h.outputs name i).1 (subst (IsControlName n) (sym (driven_by_input n [] name net d)) (clock_there n net clock));
  no_loop = no_loop n h;
}
