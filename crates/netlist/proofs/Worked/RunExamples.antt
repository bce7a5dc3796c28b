-- A worked example of runs: a latch that toggles.
use Rattle.netlist.proofs.Common.{◌≡◌, ℕ, zero, suc, Bool, true, false, not, List, [], ◌∷◌, codes, map, bytes_eq, Some, None, refl, sym, ap, ap₂, ◌∙◌, subst, if◌then◌else◌, slice_get, false≢true, none-some, same_Some, CoverValue, LibraryValue, none, stops, steps, IsRun}
use Rattle.netlist.specs.{Zero, Cover, Latch, LatchValue, cover_value, ModelValue, Path, body_at, subckts_of, model_at, is_input, IsMainInput, Place, flat, Fits, AreLatches, inits_of, state_of, IsCycle, library_machine}
use Rattle.netlist.proofs.PlaceLemmas.{inside}

-- .model toggle / .outputs q / .names q d / 0 1 / .latch d q 1
abbrev flip : CoverValue
flip = record { inputs = codes "q" ∷ []; output = codes "d"; value = true; rows = record { cells = Zero ∷ [] } ∷ [] }

abbrev kept : LatchValue
kept = record { input = codes "d"; output = codes "q"; control = None; init = true }

abbrev toggle : ModelValue
toggle = record { name = codes "toggle"; line = 1; inputs = []; outputs = codes "q" ∷ []; clocks = []; commands = record { line = 3; body = Cover flip } ∷ record { line = 5; body = Latch kept } ∷ [] }

abbrev library : LibraryValue
library = record { models = toggle ∷ [] }

abbrev latches : List Place
latches = record { path = []; command = 1 } ∷ []

are_latches : AreLatches library toggle latches
are_latches = record { at = refl; order = flat [] (none refl refl) refl }

-- the latch starts at 1
inits : inits_of library latches ≡ true ∷ []
inits = refl

-- the main model is the only instance, and these are its commands
only_path : (path : Path) (m : ModelValue) → model_at library path ≡ Some m → (path ≡ []) × (m ≡ toggle)
only_path [] m e = (refl, sym (same_Some toggle m e))
only_path (k ∷ outer) m e =
    let u = inside library outer k m e in
    let r = only_path outer u.model u.at in
    absurd (none-some u.subckt (ap (λ (x : ModelValue). slice_get (subckts_of x.commands) k) (sym r.1) ∙ u.is))

only_cover : (i : ℕ) (c : CoverValue) → body_at toggle i ≡ Some (Cover c) → flip ≡ c
only_cover zero c e = cc
only_cover (suc zero) c e = absurd (cc)
only_cover (suc (suc i)) c e = absurd (none-some (Cover c) e)

only_latch : (i : ℕ) (l : LatchValue) → body_at toggle i ≡ Some (Latch l) → (i ≡ 1) × (kept ≡ l)
only_latch zero l e = absurd (cc)
only_latch (suc zero) l e = (refl, cc)
only_latch (suc (suc i)) l e = absurd (none-some (Latch l) e)

-- Where the latch has a state, q has it and d has its complement.
abbrev value : Bool → Path → List ℕ → Bool
value s path name = if bytes_eq name (codes "q") then s else not s

flipped : (s : Bool) → value s [] (codes "d") ≡ cover_value flip (s ∷ [])
flipped true = refl
flipped false = refl

no_input : (name : List ℕ) → IsMainInput library name → ⊥
no_input name m = false≢true (ap (λ (x : ModelValue). is_input x name) (sym (only_path [] m.model m.at).1) ∙ m.is)

fits : (x : List ℕ → Bool) (s : Bool) → Fits library x (state_of latches (s ∷ [])) (value s)
fits x s = record {
  inputs = λ name m off. absurd (no_input name m);
  clocks = λ name m on. absurd (no_input name m);
  covers = λ path i c a.
      let e : flip ≡ c = only_cover i c (ap (λ m. body_at m i) (sym (only_path path a.model a.at).1) ∙ a.is) in
      subst (λ (y : CoverValue). value s path y.output ≡ cover_value y (map (value s path) y.inputs)) e (flipped s);
  latches = λ path i l a.
      let r = only_path path a.model a.at in
      let k = only_latch i l (ap (λ m. body_at m i) (sym r.1) ∙ a.is) in
      ap (λ (y : LatchValue). value s path y.output) (sym k.1) ∙ ap₂ (state_of latches (s ∷ [])) (sym r.0) (sym k.0);
  connections = λ path k pair a.
      let r = only_path path a.model a.at in
      absurd (none-some a.subckt (ap (λ (x : ModelValue). slice_get (subckts_of x.commands) k) (sym r.1) ∙ a.is));
}

cycle : (x : List ℕ → Bool) (s : Bool) → IsCycle library x (s ∷ []) (s ∷ []) (not s ∷ [])
cycle x s = record { main = toggle; latches = latches; are_latches = are_latches; states = refl; value = value s; fits = fits x s; outputs_are = refl; next_are = refl }

-- Over two cycles the output is 1 and then 0, and the states after them are 0 and 1.
run : (x y : List ℕ → Bool) → IsRun (library_machine library) (x ∷ y ∷ []) ((true ∷ []) ∷ (false ∷ []) ∷ []) ((false ∷ []) ∷ (true ∷ []) ∷ [])
run x y = record {
  start = true ∷ [];
  starts = record { main = toggle; latches = latches; are_latches = are_latches; are = refl };
  runs = steps x (y ∷ []) (true ∷ []) (false ∷ []) ((false ∷ []) ∷ []) ((true ∷ []) ∷ []) (cycle x true) (steps y [] (false ∷ []) (true ∷ []) [] [] (cycle y false) stops);
}
