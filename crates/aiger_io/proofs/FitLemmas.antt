-- Values that fit a circuit's library fit its lines, and values that fit the lines give values of all names that fit the library.
use Rattle.aiger_io.proofs.Common.{◌≡◌, ℕ, zero, suc, ◌+◌, ◌-◌, ◌/◌, ◌%◌, ◌<◌, max, Bool, true, false, cond, not, ◌&&◌, ◌||◌, eqb, List, [], ◌∷◌, ◌++◌, length, map, Option, Some, None, inl, inr, refl, sym, ap, ◌∙◌, subst, arith, append-nil, slice_get, option_map, none-some, same_Some, slice_get-map, slice_get-get_or, In, place_in, In-get, at_within, CoverValue, allows, cover_value, Fits, ModelValue, IsClock, listed, controls, Place, is_latch, own_places, flat, none, AreLatches, state_of, Cell, One, Command, in_has, Circuit, mark_of, variable_name, next_name, cell_of, cover_command, zero_command, literal_command, latch_command, port_name, item_commands, commands_from, model_of, library_of, kind_at, literal_value, FitsLines, Header, Item, Input, Latch, Output, And, lit<, ◌^◌, ◌≤◌, get_or, take, drop, decimal, bytes_eq, replicate, bytes_decides, digits_value, decimal_is_IsNumeral, slice_get_within, take-append_seam, drop-append_seam, In-left, In-right, underscores, most_underscores, few_underscores, many_underscores, AreOnce, has_in, own_name, is_literal, is_variable, output_literal, next_literal, output_literals, next_literals, right_apart, not_in_both, nat_tests, cond-true, cond-false, cases_Bool, or_left, true≢false, and_parts, or_cases, take-append-drop, rules}
use Rattle.netlist.specs.Instances.{CoverAt, LatchAt, IsMainInput}
use Rattle.netlist.specs.Models.{Path, body_at, subckts_of, model_at, has_name, is_input}
use Rattle.netlist.specs.declared.command.Body.{Body}
use Rattle.netlist.specs.declared.command.Body.TheVariants as body
use Rattle.netlist.specs.declared.latch.Latch.{Latch as LatchValue}
use Rattle.netlist.proofs.PlaceLemmas.{inside, command_of}
use Rattle.aiger_io.proofs.CleanLemmas.{IsKept, of_item, all_commands}
use Rattle.aiger_io.proofs.PlaceLemmas.{latch_indices, top_place, own_latches, state_at, command_of_latch, latch_of, AreKinds, of_input, of_latch, kind_of_item, IsPicked, picked_at, of_output, of_gate}

-- the values of covers with one row
pub plain : (b : Bool) → (b && true) || false ≡ b
plain b = grind arith

pub literal_row : (l : ℕ) (b : Bool) → (allows (cell_of l) b && true) || false ≡ cond (eqb (l % 2) 1) (not b) b
literal_row l b = grind arith

pub gate_row : (left right : ℕ) (a b : Bool) → (allows (cell_of right) b && (allows (cell_of left) a && true)) || false ≡ cond (eqb (left % 2) 1) (not a) a && cond (eqb (right % 2) 1) (not b) b
gate_row left right a b = grind arith

-- a circuit's library has no subcircuits, so its main model is the only instance
no_subckt : (mark : List ℕ) (h : Header) (inputs outputs : List (List ℕ)) (p : ℕ) (items : List Item) → subckts_of (commands_from mark h inputs outputs p items) ≡ []
no_subckt mark h inputs outputs p [] = refl
no_subckt mark h inputs outputs p (Input own ∷ items) = no_subckt mark h inputs outputs (p + 1) items
no_subckt mark h inputs outputs p (item ∷ items) = no_subckt mark h inputs outputs (p + 1) items

-- the latches of a circuit's library, in flat order
abbrev pub latches_of : Circuit → List Place
latches_of c = map top_place (latch_indices 1 c.items)

module _ (c : Circuit) where
  pub no_subckts : subckts_of (model_of c).commands ≡ []
  no_subckts = no_subckt (mark_of (c.inputs ++ c.outputs)) c.header c.inputs c.outputs 0 c.items

  pub only_path : (path : Path) (m : ModelValue) → model_at (library_of c) path ≡ Some m → (path ≡ []) × (m ≡ model_of c)
  only_path [] m e = (refl, sym (same_Some (model_of c) m e))
  only_path (k ∷ outer) m e =
      let u = inside (library_of c) outer k m e in
      absurd (none-some u.subckt (ap (λ l. slice_get l k) (sym no_subckts) ∙ ap (λ (x : ModelValue). slice_get (subckts_of x.commands) k) (sym (only_path outer u.model u.at).1) ∙ u.is))

  pub are_latches : AreLatches (library_of c) (model_of c) (latches_of c)
  are_latches = record { at = refl; order = flat [] (none no_subckts refl) (sym (own_latches (mark_of (c.inputs ++ c.outputs)) c.header c.inputs c.outputs 1 0 c.items) ∙ sym (append-nil (own_places is_latch [] 0 (model_of c).commands))) }

  pub command_in : (i : ℕ) (d : Command) → slice_get (model_of c).commands i ≡ Some d → body_at (model_of c) i ≡ Some d.body
  command_in i d e = ap (λ (o : Option Command). option_map (λ (k : Command). k.body) o) e

  pub cover_in_place : (d : Command) (cover : CoverValue) → In (model_of c).commands d → d.body ≡ body.Cover cover → (i : ℕ) × CoverAt (library_of c) [] i cover
  cover_in_place d cover i is = let p = place_in (model_of c).commands d i in (p.0, record { model = model_of c; at = refl; is = command_in p.0 d p.1 ∙ ap (λ b. Some b) is })

  pub item_in : (q : ℕ) (item : Item) (d : Command) → slice_get c.items q ≡ Some item → In (item_commands (mark_of (c.inputs ++ c.outputs)) c.header c.inputs c.outputs (0 + q) item) d → In (model_of c).commands d
  item_in q item d e i = inr (of_item (mark_of (c.inputs ++ c.outputs)) c.header c.inputs c.outputs 0 c.items q item d e i)

-- what a command of it is
pub data IsCommandOf (c : Circuit) (d : Command) : Type 0 where
  zero_is : d ≡ zero_command 1 (variable_name (mark_of (c.inputs ++ c.outputs)) 0) → IsCommandOf c d
  input_is : (q own : ℕ) → slice_get c.items q ≡ Some (Input own) → d ≡ cover_command (0 + q + 2) (port_name c.inputs (0 + q) ∷ []) (variable_name (mark_of (c.inputs ++ c.outputs)) (own / 2)) (One ∷ []) → IsCommandOf c d
  next_is : (q own next : ℕ) (init : Bool) → slice_get c.items q ≡ Some (Latch own next init) → d ≡ literal_command (mark_of (c.inputs ++ c.outputs)) (0 + q + 2) next (next_name (mark_of (c.inputs ++ c.outputs)) (0 + q - c.header.inputs)) → IsCommandOf c d
  latch_is : (q own next : ℕ) (init : Bool) → slice_get c.items q ≡ Some (Latch own next init)
      → d ≡ latch_command (0 + q + 2) (next_name (mark_of (c.inputs ++ c.outputs)) (0 + q - c.header.inputs)) (variable_name (mark_of (c.inputs ++ c.outputs)) (own / 2)) init → IsCommandOf c d
  output_is : (q l : ℕ) → slice_get c.items q ≡ Some (Output l) → d ≡ literal_command (mark_of (c.inputs ++ c.outputs)) (0 + q + 2) l (port_name c.outputs (0 + q - (c.header.inputs + c.header.latches))) → IsCommandOf c d
  gate_is : (q own left right : ℕ) → slice_get c.items q ≡ Some (And own left right)
      → d ≡ cover_command (0 + q + 2) (variable_name (mark_of (c.inputs ++ c.outputs)) (right / 2) ∷ variable_name (mark_of (c.inputs ++ c.outputs)) (left / 2) ∷ []) (variable_name (mark_of (c.inputs ++ c.outputs)) (own / 2)) (cell_of right ∷ cell_of left ∷ []) → IsCommandOf c d

of_line : (c : Circuit) (q : ℕ) (item : Item) (d : Command) → slice_get c.items q ≡ Some item → In (item_commands (mark_of (c.inputs ++ c.outputs)) c.header c.inputs c.outputs (0 + q) item) d → IsCommandOf c d
of_line c q (Input own) d e (inl is) = input_is q own e is
of_line c q (Input own) d e (inr i) = absurd i
of_line c q (Latch own next init) d e (inl is) = next_is q own next init e is
of_line c q (Latch own next init) d e (inr (inl is)) = latch_is q own next init e is
of_line c q (Latch own next init) d e (inr (inr i)) = absurd i
of_line c q (Output l) d e (inl is) = output_is q l e is
of_line c q (Output l) d e (inr i) = absurd i
of_line c q (And own left right) d e (inl is) = gate_is q own left right e is
of_line c q (And own left right) d e (inr i) = absurd i

pub command_is : (c : Circuit) (d : Command) → In (model_of c).commands d → IsCommandOf c d
command_is c d (inl is) = zero_is is
command_is c d (inr i) = all_commands (IsCommandOf c) (mark_of (c.inputs ++ c.outputs)) c.header c.inputs c.outputs 0 c.items (λ q item e at j. of_line c q item e at j) d i

-- no input is a clock
body_of_cover : (line : ℕ) (inputs : List (List ℕ)) (output : List ℕ) (cells : List Cell) (d : Command) (l : LatchValue) → d ≡ cover_command line inputs output cells → d.body ≡ body.Latch l → ⊥
body_of_cover line inputs output cells d l is e = cc (ap (λ (k : Command). k.body) is)

pub latch_body : (line : ℕ) (input output : List ℕ) (init : Bool) (d : Command) (l : LatchValue) → d ≡ latch_command line input output init → d.body ≡ body.Latch l → l ≡ record { input = input; output = output; control = None; init = init }
latch_body line input output init d l is e = let q : body.Latch (record { input = input; output = output; control = None; init = init }) ≡ body.Latch l = ap (λ (k : Command). k.body) (sym is) ∙ e in cc

pub latch_command_is : (c : Circuit) (d : Command) (l : LatchValue) → IsCommandOf c d → d.body ≡ body.Latch l → l.control ≡ None
latch_command_is c d l e e2 = grind (arith, body_of_cover, latch_body)

-- the command of a latch or a cover of an instance
pub record IsOwnCommand (c : Circuit) (path : Path) (i : ℕ) (b : Body) : Type 0 where
  pub top : path ≡ []
  pub command : Command
  pub at : slice_get (model_of c).commands i ≡ Some command
  pub is : command.body ≡ b

pub own_command : (c : Circuit) (path : Path) (i : ℕ) (b : Body) (m : ModelValue) → model_at (library_of c) path ≡ Some m → body_at m i ≡ Some b → IsOwnCommand c path i b
own_command c path i b m at is = grind (arith, only_path, command_of)

pub no_clock : (c : Circuit) (name : List ℕ) → IsClock (library_of c) name → ⊥
no_clock c name (listed m e t) = true≢false (sym t ∙ ap (λ (x : ModelValue). has_name x.clocks name) (sym (same_Some (model_of c) m e)))
no_clock c name (controls path i l control at is drives) =
    let k = own_command c path i (body.Latch l) at.model at.at at.is in
    none-some control (sym (latch_command_is c k.command l (command_is c k.command (In-get (model_of c).commands i k.command k.at)) k.is) ∙ is)

pub kinds_known : (h : Header) (p : ℕ) (items : List Item) → ((q : ℕ) (item : Item) → slice_get items q ≡ Some item → kind_of_item item ≡ kind_at h (p + q)) → AreKinds h p items
kinds_known h p [] known = tt
kinds_known h p (item ∷ items) known = (
  (let z : p + zero ≡ p = omega arith in known zero item refl ∙ ap (kind_at h) z),
  kinds_known h (p + 1) items (λ q it e. let z : p + suc q ≡ p + 1 + q = omega arith in known (suc q) it e ∙ ap (kind_at h) z),
)

pub circuit_kinds : (c : Circuit) → IsKept c → AreKinds c.header 0 c.items
circuit_kinds c kept = kinds_known c.header 0 c.items (λ q item e. let z : q ≡ 0 + q = omega arith in (kept.items q item e).kind ∙ ap (kind_at c.header) z)

module _ (c : Circuit) (kept : IsKept c) (x : List ℕ → Bool) (states : List Bool) (count : length states ≡ c.header.latches) (value : Path → List ℕ → Bool) (fits : Fits (library_of c) x (state_of (latches_of c) states) value) where
  pub cover_is : (d : Command) (cover : CoverValue) → In (model_of c).commands d → d.body ≡ body.Cover cover → value [] cover.output ≡ cover_value cover (map (value []) cover.inputs)
  cover_is d cover i is = let p = cover_in_place c d cover i is in fits.covers [] p.0 cover p.1

  pub literal_is : (line l : ℕ) (output : List ℕ) → In (model_of c).commands (literal_command (mark_of (c.inputs ++ c.outputs)) line l output) → value [] output ≡ literal_value (λ v. value [] (variable_name (mark_of (c.inputs ++ c.outputs)) v)) l
  literal_is line l output i =
      cover_is (literal_command (mark_of (c.inputs ++ c.outputs)) line l output) _ i refl ∙ literal_row l (value [] (variable_name (mark_of (c.inputs ++ c.outputs)) (l / 2)))

  input_value : (k own : ℕ) → slice_get c.items k ≡ Some (Input own) → slice_get (map x c.inputs) k ≡ Some (value [] (variable_name (mark_of (c.inputs ++ c.outputs)) (own / 2)))
  input_value k own e =
      let low : k < c.header.inputs = of_input c.header k (kept.items k (Input own) e).kind in
      let z : 0 + k ≡ k = omega arith in
      let at : slice_get c.inputs k ≡ Some (port_name c.inputs (0 + k)) = slice_get-get_or c.inputs k [] (omega arith) ∙ ap (λ m. Some (port_name c.inputs m)) (sym z) in
      let main : IsMainInput (library_of c) (port_name c.inputs (0 + k)) = record { model = model_of c; at = refl; is = or_left (has_name c.inputs (port_name c.inputs (0 + k))) false (in_has c.inputs (port_name c.inputs (0 + k)) (In-get c.inputs k (port_name c.inputs (0 + k)) at)) } in
      let v : value [] (variable_name (mark_of (c.inputs ++ c.outputs)) (own / 2)) ≡ (value [] (port_name c.inputs (0 + k)) && true) || false =
      cover_is (cover_command (0 + k + 2) (port_name c.inputs (0 + k) ∷ []) (variable_name (mark_of (c.inputs ++ c.outputs)) (own / 2)) (One ∷ [])) _ (item_in c k (Input own) _ e (inl refl)) refl in
      slice_get-map x c.inputs k ∙ ap (option_map x) at ∙ ap (λ b. Some b) (sym (v ∙ plain (value [] (port_name c.inputs (0 + k))) ∙ fits.inputs (port_name c.inputs (0 + k)) main (no_clock c (port_name c.inputs (0 + k)))))

  latch_value : (k own next : ℕ) (init : Bool) → slice_get c.items (c.header.inputs + k) ≡ Some (Latch own next init) → slice_get states k ≡ Some (value [] (variable_name (mark_of (c.inputs ++ c.outputs)) (own / 2)))
  latch_value k own next init e =
      let high : c.header.inputs + k < c.header.inputs + c.header.latches = (of_latch c.header (c.header.inputs + k) (kept.items (c.header.inputs + k) (Latch own next init) e).kind).1 in
      let b = at_within states k (omega arith) in
      let f = command_of_latch (mark_of (c.inputs ++ c.outputs)) c.header c.inputs c.outputs 1 0 c.items (circuit_kinds c kept) (c.header.inputs + k) own next init e in
      let s : 1 + f.0 ≡ suc f.0 = omega arith in
      let index : slice_get (latch_indices 1 c.items) k ≡ Some (suc f.0) = subst (λ m. slice_get (latch_indices 1 c.items) m ≡ Some (1 + f.0)) (omega arith) (f.1).index ∙ ap (λ m. Some m) s in
      let l : LatchValue = record { input = next_name (mark_of (c.inputs ++ c.outputs)) (0 + (c.header.inputs + k) - c.header.inputs); output = variable_name (mark_of (c.inputs ++ c.outputs)) (own / 2); control = None; init = init } in
      let at : LatchAt (library_of c) [] (suc f.0) l = record { model = model_of c; at = refl; is = command_in c (suc f.0) (latch_command (f.1).line (next_name (mark_of (c.inputs ++ c.outputs)) (0 + (c.header.inputs + k) - c.header.inputs)) (variable_name (mark_of (c.inputs ++ c.outputs)) (own / 2)) init) (f.1).at } in
      b.1 ∙ ap (λ t. Some t) (sym (fits.latches [] (suc f.0) l at ∙ state_at 1 c.items states k (suc f.0) b.0 index b.1))

  gate_value : (own left right : ℕ) → In c.items (And own left right) → value [] (variable_name (mark_of (c.inputs ++ c.outputs)) (own / 2)) ≡ literal_value (λ v. value [] (variable_name (mark_of (c.inputs ++ c.outputs)) v)) left && literal_value (λ v. value [] (variable_name (mark_of (c.inputs ++ c.outputs)) v)) right
  gate_value own left right i =
      let p = place_in c.items (And own left right) i in
      cover_is (cover_command (0 + p.0 + 2) (variable_name (mark_of (c.inputs ++ c.outputs)) (right / 2) ∷ variable_name (mark_of (c.inputs ++ c.outputs)) (left / 2) ∷ []) (variable_name (mark_of (c.inputs ++ c.outputs)) (own / 2)) (cell_of right ∷ cell_of left ∷ [])) _
      (item_in c p.0 (And own left right) _ p.1 (inl refl)) refl
      ∙ gate_row left right (value [] (variable_name (mark_of (c.inputs ++ c.outputs)) (left / 2))) (value [] (variable_name (mark_of (c.inputs ++ c.outputs)) (right / 2)))

  pub fits_lines : FitsLines c (map x c.inputs) states (λ v. value [] (variable_name (mark_of (c.inputs ++ c.outputs)) v))
  fits_lines = record {
    zero_is = cover_is (zero_command 1 (variable_name (mark_of (c.inputs ++ c.outputs)) 0)) _ (inl refl) refl;
    inputs = input_value;
    latches = latch_value;
    ands = gate_value;
  }

-- a name begins with the mark
abbrev starts : List ℕ → List ℕ → Bool
starts mark name = bytes_eq (take (length mark) name) mark

-- the value of a name of the library's own, by its letter and its number
abbrev own_value : (ℕ → Bool) → List ℕ → List ℕ → Bool
own_value f nexts [] = false
own_value f nexts (letter ∷ digits) = cond (eqb letter 118) (f (digits_value 10 digits)) (literal_value f (get_or nexts (digits_value 10 digits) 0))

-- the place of a name among others
abbrev pub place_among : List (List ℕ) → List ℕ → ℕ
place_among [] name = 0
place_among (n ∷ names) name = cond (bytes_eq name n) 0 (suc (place_among names name))

-- of a port's
abbrev port_value : List (List ℕ) → List (List ℕ) → List ℕ → (List ℕ → Bool) → (ℕ → Bool) → List ℕ → Bool
port_value inputs outputs literals x f name = cond (has_name inputs name) (x name) (literal_value f (get_or literals (place_among outputs name) 0))

abbrev pub built : Circuit → (List ℕ → Bool) → (ℕ → Bool) → Path → List ℕ → Bool
built c x f path name =
    cond (starts (mark_of (c.inputs ++ c.outputs)) name) (own_value f (next_literals c.items) (drop (length (mark_of (c.inputs ++ c.outputs))) name))
    (port_value c.inputs c.outputs (output_literals c.items) x f name)

no_start : (names : List (List ℕ)) (name : List ℕ) → In names name → starts (mark_of names) name ≡ false
no_start names name i = elim (cases_Bool (starts (mark_of names) name)) [
  | inl t ↦ (
      let e : take (length (mark_of names)) name ≡ mark_of names = (bytes_decides (take (length (mark_of names)) name) (mark_of names)).0 t in
      let u : underscores name ≡ underscores (mark_of names ++ drop (length (mark_of names)) name) = ap underscores (sym (take-append-drop (length (mark_of names)) name) ∙ ap (λ m. m ++ drop (length (mark_of names)) name) e) in
      let m : underscores name ≤ most_underscores names = few_underscores names name i in absurd (omega (arith, many_underscores (1 + most_underscores names) (drop (length (mark_of names)) name))))
  | inr f ↦ f
]

-- the place of a name among names none of which stands twice
pub place_once : (names : List (List ℕ)) (j : ℕ) (name : List ℕ) → AreOnce names → slice_get names j ≡ Some name → place_among names name ≡ j
place_once [] j name once e = absurd (cc)
place_once (n ∷ names) zero name once e = let q : n ≡ name = same_Some n name e in cond-true (bytes_eq name n) 0 (suc (place_among names name)) ((bytes_decides name n).1 (sym q))
place_once (n ∷ names) (suc j) name once e = elim (cases_Bool (bytes_eq name n)) [
  | inl t ↦ absurd (once.0 (subst (λ z. In names z) ((bytes_decides name n).0 t) (In-get names j name e)))
  | inr f ↦ cond-false (bytes_eq name n) 0 (suc (place_among names name)) f ∙ ap (λ k. suc k) (place_once names j name once.1 e)
]

not_input : (xs ys : List (List ℕ)) (name : List ℕ) → AreOnce (xs ++ ys) → In ys name → has_name xs name ≡ false
not_input xs ys name once j = elim (cases_Bool (has_name xs name)) [ inl t ↦ absurd (not_in_both xs ys name once (has_in xs name t) j) | inr f ↦ f ]

module _ (c : Circuit) (x : List ℕ → Bool) (f : ℕ → Bool) where
  own_built : (path : Path) (letter n : ℕ) → built c x f path (own_name (mark_of (c.inputs ++ c.outputs)) letter n) ≡ own_value f (next_literals c.items) (letter ∷ decimal n)
  own_built path letter n = search (rules, cond-true, starts, take-append_seam, decimal, own_value, drop-append_seam)

  pub variable_built : (path : Path) (v : ℕ) → v < 2 ^ 64 → built c x f path (variable_name (mark_of (c.inputs ++ c.outputs)) v) ≡ f v
  variable_built path v l = own_built path 118 v ∙ ap f (decimal_is_IsNumeral v l).1

  pub next_built : (path : Path) (k next : ℕ) → k < 2 ^ 64 → slice_get (next_literals c.items) k ≡ Some next → built c x f path (next_name (mark_of (c.inputs ++ c.outputs)) k) ≡ literal_value f next
  next_built path k next l e =
      let w : k < length (next_literals c.items) = slice_get_within (next_literals c.items) k next e in
      let g : get_or (next_literals c.items) k 0 ≡ next = same_Some (get_or (next_literals c.items) k 0) next (sym (slice_get-get_or (next_literals c.items) k 0 w) ∙ e) in
      own_built path 120 k ∙ ap (λ n. literal_value f (get_or (next_literals c.items) n 0)) (decimal_is_IsNumeral k l).1 ∙ ap (literal_value f) g

  port_built : (path : Path) (name : List ℕ) → In (c.inputs ++ c.outputs) name → built c x f path name ≡ port_value c.inputs c.outputs (output_literals c.items) x f name
  port_built path name i = cond-false (starts (mark_of (c.inputs ++ c.outputs)) name) _ _ (no_start (c.inputs ++ c.outputs) name i)

  pub input_built : (path : Path) (name : List ℕ) → In c.inputs name → built c x f path name ≡ x name
  input_built path name i = port_built path name (In-left c.inputs c.outputs name i) ∙ cond-true (has_name c.inputs name) (x name) _ (in_has c.inputs name i)

  pub output_built : (path : Path) (j l : ℕ) (name : List ℕ) → AreOnce (c.inputs ++ c.outputs) → slice_get c.outputs j ≡ Some name → slice_get (output_literals c.items) j ≡ Some l → built c x f path name ≡ literal_value f l
  output_built path j l name once at e =
      let w : j < length (output_literals c.items) = slice_get_within (output_literals c.items) j l e in
      let g : get_or (output_literals c.items) j 0 ≡ l = same_Some (get_or (output_literals c.items) j 0) l (sym (slice_get-get_or (output_literals c.items) j 0 w) ∙ e) in
      port_built path name (In-right c.inputs c.outputs name (In-get c.outputs j name at))
      ∙ cond-false (has_name c.inputs name) (x name) _ (not_input c.inputs c.outputs name once (In-get c.outputs j name at))
      ∙ ap (λ n. literal_value f (get_or (output_literals c.items) n 0)) (place_once c.outputs j name (right_apart c.inputs c.outputs once) at) ∙ ap (literal_value f) g

-- what is picked of latches and of outputs
pub nexts_picked : (h : Header) (p : ℕ) (item : Item) → kind_of_item item ≡ kind_at h p → IsPicked h next_literal h.inputs (h.inputs + h.latches) p item
nexts_picked h p (Input own) e = record { cases = inr (inl (of_input h p e), refl) }
nexts_picked h p (Latch own next init) e = let w = of_latch h p e in record { cases = inl (w.0, w.1, (next, refl)) }
nexts_picked h p (Output l) e = record { cases = inr (inr (of_output h p e).0, refl) }
nexts_picked h p (And own left right) e = record { cases = inr (inr (let g : h.inputs + h.latches + h.outputs ≤ p = of_gate h p e in omega arith), refl) }

pub outputs_picked : (h : Header) (p : ℕ) (item : Item) → kind_of_item item ≡ kind_at h p → IsPicked h output_literal (h.inputs + h.latches) (h.inputs + h.latches + h.outputs) p item
outputs_picked h p (Input own) e = record { cases = inr (inl (let l : p < h.inputs = of_input h p e in omega arith), refl) }
outputs_picked h p (Latch own next init) e = record { cases = inr (inl (of_latch h p e).1, refl) }
outputs_picked h p (Output l) e = let w = of_output h p e in record { cases = inl (w.0, w.1, (l, refl)) }
outputs_picked h p (And own left right) e = record { cases = inr (inr (of_gate h p e), refl) }

-- what a command's body is
pub cover_body : (line : ℕ) (inputs : List (List ℕ)) (output : List ℕ) (cells : List Cell) (d : Command) (cover : CoverValue) → d ≡ cover_command line inputs output cells → d.body ≡ body.Cover cover
    → cover ≡ record { inputs = inputs; output = output; value = true; rows = record { cells = cells } ∷ [] }
cover_body line inputs output cells d cover is e = let q : (cover_command line inputs output cells).body ≡ body.Cover cover = ap (λ (k : Command). k.body) (sym is) ∙ e in cc

zero_body : (line : ℕ) (output : List ℕ) (d : Command) (cover : CoverValue) → d ≡ zero_command line output → d.body ≡ body.Cover cover → cover ≡ record { inputs = []; output = output; value = true; rows = [] }
zero_body line output d cover is e = let q : (zero_command line output).body ≡ body.Cover cover = ap (λ (k : Command). k.body) (sym is) ∙ e in cc

module _ (c : Circuit) (kept : IsKept c) (once : AreOnce (c.inputs ++ c.outputs)) (x : List ℕ → Bool) (states : List Bool) (f : ℕ → Bool) (fits : FitsLines c (map x c.inputs) states f) where
  read_small : (l : ℕ) → is_literal c.header.variables l ≡ true → l / 2 < 2 ^ 64
  read_small l t = let m : c.header.variables ≤ 1073741824 = kept.most in grind (arith, nat_tests)

  own_small : (l : ℕ) → is_variable c.header.variables l ≡ true → l / 2 < 2 ^ 64
  own_small l t = let m : c.header.variables ≤ 1073741824 = kept.most in grind (arith, nat_tests)

  -- a literal's value is that of its cover
  literal_built : (path : Path) (line l : ℕ) (output : List ℕ) (d : Command) (cover : CoverValue) → l / 2 < 2 ^ 64 → built c x f path output ≡ literal_value f l → d ≡ literal_command (mark_of (c.inputs ++ c.outputs)) line l output → d.body ≡ body.Cover cover
      → built c x f path cover.output ≡ cover_value cover (map (built c x f path) cover.inputs)
  literal_built path line l output d cover small v is e =
      let same = cover_body line (variable_name (mark_of (c.inputs ++ c.outputs)) (l / 2) ∷ []) output (cell_of l ∷ []) d cover is e in
      subst (λ (k : CoverValue). built c x f path k.output ≡ cover_value k (map (built c x f path) k.inputs)) (sym same)
      (v ∙ sym (literal_row l (f (l / 2))) ∙ ap (λ b. (allows (cell_of l) b && true) || false) (sym (variable_built c x f path (l / 2) small)))

  cover_built : (path : Path) (d : Command) (cover : CoverValue) → IsCommandOf c d → d.body ≡ body.Cover cover → built c x f path cover.output ≡ cover_value cover (map (built c x f path) cover.inputs)
  cover_built path d cover (zero_is is) e =
      subst (λ (k : CoverValue). built c x f path k.output ≡ cover_value k (map (built c x f path) k.inputs)) (sym (zero_body 1 (variable_name (mark_of (c.inputs ++ c.outputs)) 0) d cover is e))
      (variable_built c x f path 0 (lit< tt) ∙ fits.zero_is)
  cover_built path d cover (input_is q own at is) e =
      let k = kept.items q (Input own) at in
      let low : q < c.header.inputs = of_input c.header q k.kind in
      let z : 0 + q ≡ q = omega arith in
      let there : slice_get c.inputs q ≡ Some (port_name c.inputs (0 + q)) = slice_get-get_or c.inputs q [] (omega arith) ∙ ap (λ m. Some (port_name c.inputs m)) (sym z) in
      let v : x (port_name c.inputs (0 + q)) ≡ f (own / 2) = same_Some (x (port_name c.inputs (0 + q))) (f (own / 2)) (sym (slice_get-map x c.inputs q ∙ ap (option_map x) there) ∙ fits.inputs q own at) in
      subst (λ (k : CoverValue). built c x f path k.output ≡ cover_value k (map (built c x f path) k.inputs)) (sym (cover_body (0 + q + 2) (port_name c.inputs (0 + q) ∷ []) (variable_name (mark_of (c.inputs ++ c.outputs)) (own / 2)) (One ∷ []) d cover is e))
      (variable_built c x f path (own / 2) (own_small own k.range) ∙ sym v ∙ sym (input_built c x f path (port_name c.inputs (0 + q)) (In-get c.inputs q (port_name c.inputs (0 + q)) there)) ∙ sym (plain (built c x f path (port_name c.inputs (0 + q)))))
  cover_built path d cover (next_is q own next init at is) e =
      let r = and_parts (is_variable c.header.variables own) (is_literal c.header.variables next) (kept.items q (Latch own next init) at).range in
      let w : q < length c.items = slice_get_within c.items q (Latch own next init) at in
      let picked = picked_at c.header next_literal c.header.inputs (c.header.inputs + c.header.latches) (nexts_picked c.header) 0 c.items (circuit_kinds c kept) q (Latch own next init) next at refl in
      literal_built path (0 + q + 2) next (next_name (mark_of (c.inputs ++ c.outputs)) (0 + q - c.header.inputs)) d cover (read_small next r.1)
      (next_built c x f path (0 + q - c.header.inputs) next (omega arith) (subst (λ m. slice_get (next_literals c.items) m ≡ Some next) (omega arith) picked)) is e
  cover_built path d cover (latch_is q own next init at is) e = absurd (cc (ap (λ (k : Command). k.body) is))
  cover_built path d cover (output_is q l at is) e =
      let k = kept.items q (Output l) at in
      let w = of_output c.header q k.kind in
      let picked = picked_at c.header output_literal (c.header.inputs + c.header.latches) (c.header.inputs + c.header.latches + c.header.outputs) (outputs_picked c.header) 0 c.items (circuit_kinds c kept) q (Output l) l at refl in
      literal_built path (0 + q + 2) l (port_name c.outputs (0 + q - (c.header.inputs + c.header.latches))) d cover (read_small l k.range)
      (output_built c x f path (0 + q - (c.header.inputs + c.header.latches)) l (port_name c.outputs (0 + q - (c.header.inputs + c.header.latches))) once
      (slice_get-get_or c.outputs (0 + q - (c.header.inputs + c.header.latches)) [] (omega arith)) (subst (λ m. slice_get (output_literals c.items) m ≡ Some l) (omega arith) picked)) is e
  cover_built path d cover (gate_is q own left right at is) e =
      let k = kept.items q (And own left right) at in
      let r = and_parts (is_variable c.header.variables own) (is_literal c.header.variables left && is_literal c.header.variables right) k.range in
      let t = and_parts (is_literal c.header.variables left) (is_literal c.header.variables right) r.1 in
      subst (λ (k : CoverValue). built c x f path k.output ≡ cover_value k (map (built c x f path) k.inputs))
      (sym (cover_body (0 + q + 2) (variable_name (mark_of (c.inputs ++ c.outputs)) (right / 2) ∷ variable_name (mark_of (c.inputs ++ c.outputs)) (left / 2) ∷ []) (variable_name (mark_of (c.inputs ++ c.outputs)) (own / 2)) (cell_of right ∷ cell_of left ∷ []) d cover is e))
      (variable_built c x f path (own / 2) (own_small own r.0) ∙ fits.ands own left right (In-get c.items q (And own left right) at) ∙ sym (gate_row left right (f (left / 2)) (f (right / 2)))
      ∙ ap (λ b. (allows (cell_of right) b && (allows (cell_of left) (f (left / 2)) && true)) || false) (sym (variable_built c x f path (right / 2) (read_small right t.1)))
      ∙ ap (λ b. (allows (cell_of right) (built c x f path (variable_name (mark_of (c.inputs ++ c.outputs)) (right / 2))) && (allows (cell_of left) b && true)) || false) (sym (variable_built c x f path (left / 2) (read_small left t.0))))

  latch_built : (path : Path) (i : ℕ) (d : Command) (l : LatchValue) → slice_get (model_of c).commands i ≡ Some d → d.body ≡ body.Latch l → built c x f path l.output ≡ state_of (latches_of c) states [] i
  latch_built path zero d l at e = grind (arith, same_Some)
  latch_built path (suc n) d l at e =
      let g = latch_of (mark_of (c.inputs ++ c.outputs)) c.header c.inputs c.outputs 1 0 c.items (circuit_kinds c kept) n d l at e in
      let k = kept.items g.place (Latch g.own g.next g.init) (g.are).item in
      let r = and_parts (is_variable c.header.variables g.own) (is_literal c.header.variables g.next) k.range in
      let low : c.header.inputs ≤ g.place = (of_latch c.header g.place k.kind).0 in
      let z : 0 + g.place - max 0 c.header.inputs ≡ g.place - c.header.inputs = omega arith in
      let y : g.place ≡ c.header.inputs + (g.place - c.header.inputs) = omega arith in
      let s : 1 + n ≡ suc n = omega arith in
      let index : slice_get (latch_indices 1 c.items) (g.place - c.header.inputs) ≡ Some (suc n) = subst (λ m. slice_get (latch_indices 1 c.items) m ≡ Some (1 + n)) z (g.are).index ∙ ap (λ m. Some m) s in
      let state : slice_get states (g.place - c.header.inputs) ≡ Some (f (g.own / 2)) = fits.latches (g.place - c.header.inputs) g.own g.next g.init (subst (λ m. slice_get c.items m ≡ Some (Latch g.own g.next g.init)) y (g.are).item) in
      ap (λ (k : LatchValue). built c x f path k.output) (latch_body _ _ _ _ d l (same_Some d _ (sym at ∙ (g.are).at)) e) ∙ variable_built c x f path (g.own / 2) (own_small g.own r.0) ∙ sym (state_at 1 c.items states (g.place - c.header.inputs) (suc n) (f (g.own / 2)) index state)

  pub fits_library : Fits (library_of c) x (state_of (latches_of c) states) (built c x f)
  fits_library = record {
    inputs = λ name main off.
        let t : (has_name c.inputs name || false) ≡ true = ap (λ (m : ModelValue). is_input m name) (sym (only_path c [] main.model main.at).1) ∙ main.is in
        input_built c x f [] name (has_in c.inputs name (elim (or_cases (has_name c.inputs name) false t) [ inl a ↦ a | inr b ↦ absurd (true≢false (sym b)) ]));
    clocks = λ name main on. absurd (no_clock c name on);
    covers = λ path i cover at.
        let k = own_command c path i (body.Cover cover) at.model at.at at.is in
        cover_built path k.command cover (command_is c k.command (In-get (model_of c).commands i k.command k.at)) k.is;
    latches = λ path i l at.
        let k = own_command c path i (body.Latch l) at.model at.at at.is in
        latch_built path i k.command l k.at k.is ∙ ap (λ p. state_of (latches_of c) states p i) (sym k.top);
    connections = λ path k pair at. grind (arith, none-some, no_subckts, only_path);
  }
