-- A netlist without hierarchy as a library: its one instance, with its latches and covers, and a clock cycle over the names of this instance.
use Rattle.blif_write.proofs.Common.{◌≡◌, ℕ, zero, suc, ◌+◌, ◌<◌, Bool, true, false, cond, ◌||◌, IsTrue, List, [], ◌∷◌, ◌++◌, length, map, slice_get, slice_index_or, Option, Some, refl, sym, ap, subst, ◌∙◌, arith, append-nil, option_and_then, ne_eqb, slice_get_within, In, In-get, in_has, Command, LatchValue, CoverValue, cover_value, SubcktValue, ModelValue, LibraryValue, Path, body_at, subckts_of, has_name, is_input, CoverAt, LatchAt, IsMainInput, input_net, Drives, main_input, latch_output, cover_output, from_inside, from_outside, IsClock, listed, controls, Place, latch_at, is_latch, own_places, FlatOrder, FlatUnder, flat, HasOneCycle, none, PlainNetlist, all_inputs, read_control, read_latch, latch_commands, cover_commands, model_of, library_of, None, inl, inr, option_map, none-some, same_Some, slice_get-map, In-map, place_in, get_left, get_right, Body, model_named, placed, model_at, ConnectionAt, Cover, Latch, cases_Bool, TellsClocks, Subckt, rules, GivesCycle, GivesRun, AreLatches, AreInits, inits_of, state_of, next_states, IsCycle, library_machine}
use Rattle.netlist.specs.Cycle.{Fits}
use Rattle.netlist.proofs.RunLemmas.{cycle_there, run_there}
use Rattle.netlist.specs.declared.subckt.Connection.{Connection}

-- no instance is placed
covers_alone : (line : ℕ) (cs : List CoverValue) → subckts_of (cover_commands line cs) ≡ []
covers_alone line [] = refl
covers_alone line (c ∷ cs) = covers_alone (suc line + length c.rows) cs

latches_alone : (line : ℕ) (ls : List LatchValue) (commands : List Command) → subckts_of commands ≡ [] → subckts_of (latch_commands line ls ++ commands) ≡ []
latches_alone line [] commands h = h
latches_alone line (l ∷ ls) commands h = latches_alone (suc line) ls commands h

pub no_subckts : (n : PlainNetlist) → subckts_of (model_of n).commands ≡ []
no_subckts n = latches_alone (3 + length n.inputs) n.latches (cover_commands (3 + length n.inputs + length n.latches) n.covers) (covers_alone (3 + length n.inputs + length n.latches) n.covers)

pub none_placed : (n : PlainNetlist) (k : ℕ) → placed (library_of n) k (model_of n) ≡ None
none_placed n k = ap (λ (t : List SubcktValue). option_and_then (λ (s : SubcktValue). model_named (library_of n).models s.model) (slice_get t k)) (no_subckts n)

none_below : (n : PlainNetlist) (k : ℕ) (outer : Option ModelValue) → ((m : ModelValue) → outer ≡ Some m → m ≡ model_of n) → option_and_then (placed (library_of n) k) outer ≡ None
none_below n k outer h = search (rules, none_placed)

pub only_top : (n : PlainNetlist) (path : Path) (m : ModelValue) → model_at (library_of n) path ≡ Some m → (path ≡ []) × (m ≡ model_of n)
only_top n [] m e = (refl, sym (same_Some (model_of n) m e))
only_top n (k ∷ outer) m e = absurd (none-some m (sym (none_below n k (model_at (library_of n) outer) (λ o h. (only_top n outer o h).1)) ∙ e))

-- its commands
abbrev pub bodies_of : PlainNetlist → List Body
bodies_of n = map (λ (l : LatchValue). Latch (read_latch l)) n.latches ++ map (λ (c : CoverValue). Cover c) n.covers

cover_bodies : (line : ℕ) (cs : List CoverValue) → map (λ (c : Command). c.body) (cover_commands line cs) ≡ map (λ (c : CoverValue). Cover c) cs
cover_bodies line [] = refl
cover_bodies line (c ∷ cs) = ap (λ (t : List Body). Cover c ∷ t) (cover_bodies (suc line + length c.rows) cs)

latch_bodies : (line : ℕ) (ls : List LatchValue) (commands : List Command) → map (λ (c : Command). c.body) (latch_commands line ls ++ commands) ≡ map (λ (l : LatchValue). Latch (read_latch l)) ls ++ map (λ (c : Command). c.body) commands
latch_bodies line [] commands = refl
latch_bodies line (l ∷ ls) commands = ap (λ (t : List Body). Latch (read_latch l) ∷ t) (latch_bodies (suc line) ls commands)

pub body_is : (n : PlainNetlist) (i : ℕ) → body_at (model_of n) i ≡ slice_get (bodies_of n) i
body_is n i =
    sym (slice_get-map (λ (c : Command). c.body) (model_of n).commands i)
    ∙ ap (λ (t : List Body). slice_get t i) (latch_bodies (3 + length n.inputs) n.latches (cover_commands (3 + length n.inputs + length n.latches) n.covers)
    ∙ ap (λ (t : List Body). map (λ (l : LatchValue). Latch (read_latch l)) n.latches ++ t) (cover_bodies (3 + length n.inputs + length n.latches) n.covers))

-- each is a latch or a cover, by its place
abbrev pub IsBody : List LatchValue → List CoverValue → ℕ → Body → Type 0
IsBody ls cs i (Cover c) = (j : ℕ) × (i ≡ length ls + j) × (slice_get cs j ≡ Some c)
IsBody ls cs i (Latch l) = (k : LatchValue) × (slice_get ls i ≡ Some k) × (l ≡ read_latch k)
IsBody ls cs i (Subckt s) = ⊥

cover_later : (c : CoverValue) (cs : List CoverValue) (i : ℕ) (body : Body) → IsBody [] cs i body → IsBody [] (c ∷ cs) (suc i) body
cover_later c cs i (Cover d) is = (suc is.0, omega (arith, is.1), is.2)
cover_later c cs i body is = is

latch_later : (l : LatchValue) (ls : List LatchValue) (cs : List CoverValue) (i : ℕ) (body : Body) → IsBody ls cs i body → IsBody (l ∷ ls) cs (suc i) body
latch_later l ls cs i body is = search rules

pub body_got : (ls : List LatchValue) (cs : List CoverValue) (i : ℕ) (body : Body) → slice_get (map (λ (l : LatchValue). Latch (read_latch l)) ls ++ map (λ (c : CoverValue). Cover c) cs) i ≡ Some body → IsBody ls cs i body
body_got [] [] i body e = absurd (none-some body e)
body_got [] (c ∷ cs) (suc i) body e = cover_later c cs i body (body_got [] cs i body e)
body_got (l ∷ ls) cs (suc i) body e = latch_later l ls cs i body (body_got ls cs i body e)
body_got ls cs zero body e = grind arith

-- a command of an instance is one of the top's
body_there : (n : PlainNetlist) (path : Path) (i : ℕ) (m : ModelValue) (body : Body) → model_at (library_of n) path ≡ Some m → body_at m i ≡ Some body → (path ≡ []) × (slice_get (bodies_of n) i ≡ Some body)
body_there n path i m body at is = grind (arith, only_top, body_is)

pub cover_body : (n : PlainNetlist) (path : Path) (i : ℕ) (c : CoverValue) → CoverAt (library_of n) path i c → (path ≡ []) × (slice_get (bodies_of n) i ≡ Some (Cover c))
cover_body n path i c at = body_there n path i at.model (Cover c) at.at at.is

pub latch_body : (n : PlainNetlist) (path : Path) (i : ℕ) (l : LatchValue) → LatchAt (library_of n) path i l → (path ≡ []) × (slice_get (bodies_of n) i ≡ Some (Latch l))
latch_body n path i l at = body_there n path i at.model (Latch l) at.at at.is

-- a cover of an instance is one of the netlist's
pub cover_there : (n : PlainNetlist) (path : Path) (i : ℕ) (c : CoverValue) → CoverAt (library_of n) path i c → (path ≡ []) × In n.covers c
cover_there n path i c at =
    let b : (path ≡ []) × (slice_get (bodies_of n) i ≡ Some (Cover c)) = cover_body n path i c at in
    let r : (j : ℕ) × (i ≡ length n.latches + j) × (slice_get n.covers j ≡ Some c) = body_got n.latches n.covers i (Cover c) b.1 in
    (b.0, In-get n.covers r.0 c r.2)

pub latch_there : (n : PlainNetlist) (path : Path) (i : ℕ) (l : LatchValue) → LatchAt (library_of n) path i l → (path ≡ []) × ((k : LatchValue) × (slice_get n.latches i ≡ Some k) × (l ≡ read_latch k))
latch_there n path i l at =
    let b : (path ≡ []) × (slice_get (bodies_of n) i ≡ Some (Latch l)) = latch_body n path i l at in
    (b.0, body_got n.latches n.covers i (Latch l) b.1)

-- and the other way round
pub cover_at_top : (n : PlainNetlist) (c : CoverValue) → In n.covers c → (i : ℕ) × CoverAt (library_of n) [] i c
cover_at_top n c i =
    let at : (k : ℕ) × (slice_get (map (λ (d : CoverValue). Cover d) n.covers) k ≡ Some (Cover c)) = place_in (map (λ (d : CoverValue). Cover d) n.covers) (Cover c) (In-map (λ (d : CoverValue). Cover d) n.covers c i) in
    let latches : List Body = map (λ (l : LatchValue). Latch (read_latch l)) n.latches in
    (length latches + at.0, record { model = model_of n; at = refl; is = body_is n (length latches + at.0) ∙ get_right latches (map (λ (d : CoverValue). Cover d) n.covers) at.0 (Cover c) at.1 })

pub latch_at_top : (n : PlainNetlist) (i : ℕ) (l : LatchValue) → slice_get n.latches i ≡ Some l → LatchAt (library_of n) [] i (read_latch l)
latch_at_top n i l e =
    let there = slice_get-map (λ (k : LatchValue). Latch (read_latch k)) n.latches i ∙ ap (option_map (λ (k : LatchValue). Latch (read_latch k))) e in
    record { model = model_of n; at = refl; is = body_is n i ∙ get_left (map (λ (k : LatchValue). Latch (read_latch k)) n.latches) (map (λ (d : CoverValue). Cover d) n.covers) i (Latch (read_latch l)) there }

pub no_connection : (n : PlainNetlist) (path : Path) (k : ℕ) (pair : Connection) → ConnectionAt (library_of n) path k pair → ⊥
no_connection n path k pair at = grind (arith, only_top, none-some, no_subckts)

-- a name is the control of a latch
pub record IsControlName (n : PlainNetlist) (name : List ℕ) : Type 0 where
  pub latch : LatchValue
  pub in' : In n.latches latch
  pub is : read_control latch.control ≡ Some name

-- values of the names fit the values x of the inputs and the states s
pub record PlainFits (n : PlainNetlist) (x : List ℕ → Bool) (s : List Bool) (value : List ℕ → Bool) : Type 0 where
  pub inputs : (name : List ℕ) → In (all_inputs n) name → (IsControlName n name → ⊥) → value name ≡ x name
  pub covers : (c : CoverValue) → In n.covers c → value c.output ≡ cover_value c (map value c.inputs)
  pub latches : (j : ℕ) (l : LatchValue) → slice_get n.latches j ≡ Some l → value l.output ≡ slice_index_or s j false

-- a cycle of these names
pub record IsPlainCycle (n : PlainNetlist) (x : List ℕ → Bool) (s outputs next : List Bool) : Type 0 where
  pub states : length s ≡ length n.latches
  pub value : List ℕ → Bool
  pub fits : PlainFits n x s value
  pub outputs_are : outputs ≡ map value n.outputs
  pub next_are : next ≡ map (λ (l : LatchValue). value l.input) n.latches

-- the places of the latches, the first of which is command i
abbrev pub places_from : ℕ → ℕ → List Place
places_from i zero = []
places_from i (suc count) = record { path = []; command = i } ∷ places_from (suc i) count

no_places : (i line : ℕ) (cs : List CoverValue) → own_places is_latch [] i (cover_commands line cs) ≡ []
no_places i line [] = refl
no_places i line (c ∷ cs) = no_places (suc i) (suc line + length c.rows) cs

latch_places : (i line : ℕ) (ls : List LatchValue) (commands : List Command) → ((k : ℕ) → own_places is_latch [] k commands ≡ []) → own_places is_latch [] i (latch_commands line ls ++ commands) ≡ places_from i (length ls)
latch_places i line [] commands h = h i
latch_places i line (l ∷ ls) commands h = ap (λ (t : List Place). record { path = []; command = i } ∷ t) (latch_places (suc i) (suc line) ls commands h)

pub places_are : (n : PlainNetlist) → own_places is_latch [] 0 (model_of n).commands ≡ places_from 0 (length n.latches)
places_are n = latch_places 0 (3 + length n.inputs) n.latches (cover_commands (3 + length n.inputs + length n.latches) n.covers) (λ k. no_places k (3 + length n.inputs + length n.latches) n.covers)

none_under : (library : LibraryValue) (path : Path) (k : ℕ) (subckts : List SubcktValue) (inner : List Place) → subckts ≡ [] → FlatUnder library is_latch path k subckts inner → inner ≡ []
none_under library path k subckts inner e h = search rules

order_is : (n : PlainNetlist) (places : List Place) → FlatOrder (library_of n) is_latch [] (model_of n) places → places ≡ places_from 0 (length n.latches)
order_is n places (flat inner under e) = grind (arith, none_under, no_subckts, append-nil, places_are)

-- the latches of the library, in flat order
pub latches_are_places : (n : PlainNetlist) (main : ModelValue) (places : List Place) → AreLatches (library_of n) main places → (main ≡ model_of n) × (places ≡ places_from 0 (length n.latches))
latches_are_places n main places h = grind (arith, only_top, order_is)

pub places_are_latches : (n : PlainNetlist) → AreLatches (library_of n) (model_of n) (places_from 0 (length n.latches))
places_are_latches n = record { at = refl; order = flat [] (none (no_subckts n) refl) (sym (append-nil (own_places is_latch [] 0 (model_of n).commands) ∙ places_are n)) }

-- the state of the latch at a place
state_there : (i j count : ℕ) (s : List Bool) → j < count → state_of (places_from i count) s [] (i + j) ≡ slice_index_or s j false
state_there i zero (suc count) (b ∷ s) h = grind arith
state_there i (suc j) (suc count) (b ∷ s) h = grind (arith, cond, places_from, ne_eqb, state_there (suc i) j count s (omega (arith, h)))
state_there i j count s h = search rules

-- a main input, and a clock
pub input_is : (n : PlainNetlist) (name : List ℕ) → In (all_inputs n) name → IsTrue (is_input (model_of n) name)
input_is n name i = ap (λ (t : Bool). t || has_name [] name) (in_has (all_inputs n) name i)

pub main_there : (n : PlainNetlist) (name : List ℕ) → In (all_inputs n) name → IsMainInput (library_of n) name
main_there n name i = record { model = model_of n; at = refl; is = input_is n name i }

pub driven_by_input : (n : PlainNetlist) (path : Path) (name net : List ℕ) → Drives (library_of n) path name (input_net net) → name ≡ net
driven_by_input n path name net (main_input p m e) = let same : name ≡ net = cc in same
driven_by_input n path name net (latch_output i l at o e) = absurd (let wrong : ⊥ = cc in wrong)
driven_by_input n path name net (cover_output i c at o e) = absurd (let wrong : ⊥ = cc in wrong)
driven_by_input n path name net (from_inside k pair at t o d) = absurd (no_connection n path k pair at)
driven_by_input n path name net (from_outside k outer pair at t p o d) = absurd (no_connection n outer k pair at)

-- the control of an instance's latch
pub control_there : (n : PlainNetlist) (path : Path) (i : ℕ) (l : LatchValue) (control : List ℕ) → LatchAt (library_of n) path i l → l.control ≡ Some control → (path ≡ []) × IsControlName n control
control_there n path i l control at e =
    let t : (path ≡ []) × ((k : LatchValue) × (slice_get n.latches i ≡ Some k) × (l ≡ read_latch k)) = latch_there n path i l at in
    (t.0, record { latch = t.1.0; in' = In-get n.latches i t.1.0 t.1.1; is = sym (ap (λ (m : LatchValue). m.control) t.1.2) ∙ e })

pub clock_there : (n : PlainNetlist) (name : List ℕ) → IsClock (library_of n) name → IsControlName n name
clock_there n name (listed m at has) = let top : m ≡ model_of n = (only_top n [] m at).1 in absurd (let t : false ≡ true = subst (λ (k : ModelValue). IsTrue (has_name k.clocks name)) top has in let wrong : ⊥ = cc in wrong)
clock_there n name (controls path i l control at is d) =
    subst (IsControlName n) (driven_by_input n path control name d) (control_there n path i l control at is).1

pub not_clock : (n : PlainNetlist) (test : List ℕ → Bool) → TellsClocks (library_of n) test → (name : List ℕ) → (IsControlName n name → ⊥) → test name ≡ false
not_clock n test tells name free = elim (cases_Bool (test name)) [ inl e ↦ absurd (free (clock_there n name (tells.yes name e))) | inr e ↦ e ]

pub length_places : (i count : ℕ) → length (places_from i count) ≡ count
length_places i zero = refl
length_places i (suc count) = ap suc (length_places (suc i) count)

latch_found : (n : PlainNetlist) (i : ℕ) (l : LatchValue) → LatchAt (library_of n) [] i (read_latch l) → latch_at (library_of n) (record { path = []; command = i }) ≡ Some (read_latch l)
latch_found n i l at = grind arith

next_there : (n : PlainNetlist) (value : Path → List ℕ → Bool) (ls : List LatchValue) (i : ℕ) → ((j : ℕ) (l : LatchValue) → slice_get ls j ≡ Some l → slice_get n.latches (i + j) ≡ Some l)
    → next_states (library_of n) value (places_from i (length ls)) ≡ map (λ (l : LatchValue). value [] l.input) ls
next_there n value [] i h = refl
next_there n value (l ∷ ls) i h =
    let at : LatchAt (library_of n) [] i (read_latch l) = latch_at_top n i l (subst (λ (k : ℕ). slice_get n.latches k ≡ Some l) (omega arith) (h 0 l refl)) in
    grind (arith, places_from, next_there n value ls (suc i) (λ j k f. let g : i + suc j ≡ suc i + j = omega arith in subst (λ (m : ℕ). slice_get n.latches m ≡ Some k) g (h (suc j) k f)))

inits_there : (n : PlainNetlist) (ls : List LatchValue) (i : ℕ) → ((j : ℕ) (l : LatchValue) → slice_get ls j ≡ Some l → slice_get n.latches (i + j) ≡ Some l)
    → inits_of (library_of n) (places_from i (length ls)) ≡ map (λ (l : LatchValue). l.init) ls
inits_there n [] i h = refl
inits_there n (l ∷ ls) i h =
    let at : LatchAt (library_of n) [] i (read_latch l) = latch_at_top n i l (subst (λ (k : ℕ). slice_get n.latches k ≡ Some l) (omega arith) (h 0 l refl)) in
    grind (arith, places_from, latch_found, inits_there n ls (suc i) (λ j k f. let g : i + suc j ≡ suc i + j = omega arith in subst (λ (m : ℕ). slice_get n.latches m ≡ Some k) g (h (suc j) k f)))

-- the latches' inits
pub plain_inits : (n : PlainNetlist) (s : List Bool) → AreInits (library_of n) s → s ≡ map (λ (l : LatchValue). l.init) n.latches
plain_inits n s a =
    a.are ∙ ap (inits_of (library_of n)) (latches_are_places n a.main a.latches a.are_latches).1
    ∙ inits_there n n.latches 0 (λ j l e. let z : j ≡ 0 + j = omega arith in subst (λ (k : ℕ). slice_get n.latches k ≡ Some l) z e)

-- a cycle of the library is one over the names of its instance
pub plain_cycle : (n : PlainNetlist) (x : List ℕ → Bool) (s outputs next : List Bool) → IsCycle (library_of n) x s outputs next → IsPlainCycle n x s outputs next
plain_cycle n x s outputs next c =
    let are : (c.main ≡ model_of n) × (c.latches ≡ places_from 0 (length n.latches)) = latches_are_places n c.main c.latches c.are_latches in
    let fits : Fits (library_of n) x (state_of (places_from 0 (length n.latches)) s) c.value = subst (λ (p : List Place). Fits (library_of n) x (state_of p s) c.value) are.1 c.fits in
    record {
      states = c.states ∙ ap length are.1 ∙ length_places 0 (length n.latches);
      value = c.value [];
      fits = record {
        inputs = λ name i free. fits.inputs name (main_there n name i) (λ clock. free (clock_there n name clock));
        covers = λ d i. let at : (k : ℕ) × CoverAt (library_of n) [] k d = cover_at_top n d i in fits.covers [] at.0 d at.1;
        latches = λ j l e. let z : j ≡ 0 + j = omega arith in fits.latches [] j (read_latch l) (latch_at_top n j l e) ∙ ap (state_of (places_from 0 (length n.latches)) s []) z ∙ state_there 0 j (length n.latches) s (slice_get_within n.latches j l e);
      };
      outputs_are = c.outputs_are ∙ ap (λ (m : ModelValue). map (c.value []) m.outputs) are.0;
      next_are = c.next_are ∙ ap (next_states (library_of n) c.value) are.1 ∙ next_there n c.value n.latches 0 (λ j l e. let z : j ≡ 0 + j = omega arith in subst (λ (k : ℕ). slice_get n.latches k ≡ Some l) z e);
    }

-- where values of all names fit, there are cycles and runs
pub plain_has_cycle : (n : PlainNetlist) → HasOneCycle (library_of n) → (x : List ℕ → Bool) (s : List Bool) → length s ≡ length n.latches → GivesCycle (library_machine (library_of n)) x s
plain_has_cycle n law x s len = cycle_there (library_of n) law (model_of n) (places_from 0 (length n.latches)) (places_are_latches n) x s (len ∙ sym (length_places 0 (length n.latches)))

pub plain_has_run : (n : PlainNetlist) → HasOneCycle (library_of n) → (xs : List (List ℕ → Bool)) → GivesRun (library_machine (library_of n)) xs
plain_has_run n law = run_there (library_of n) law (model_of n) (places_from 0 (length n.latches)) (places_are_latches n)
