-- The parts of a written netlist: what its commands are named, of which kind the names are, that each occurs once, and their ranks.
use Rattle.blif_write.proofs.Common.{◌≡◌, ◌⊎◌, ℕ, suc, ◌^◌, ◌<◌, Bool, true, false, not, cond, nat_le, List, [], ◌∷◌, length, map, bytes_eq, Option, Some, refl, sym, ap, subst, ◌∙◌, inl, inr, flat_map, bytes_eq-Decides, In, In-left, In-right, from_map, AreOnce, LatchValue, CoverValue, IsWellFormedBody, FlatValue, underscores, Param, regular_names, param_names, has_name, Lut, IsClean, Lit, OutPort, filtered_apart, Cover, Naming, table_name, literal_name, bit_name, wire_of, control_names, wire, wires, leaf_names, ◌+◌, ◌≤◌, ◌++◌, slice_get, arith, decimal, In-append, FlatLatch, AscendByLit, is_special, ordinary_clean, marked_ordinary, decimal_ordinary, own_name, latch_name, written_latches, rules}
use Rattle.blif_write.proofs.OwnNameLemmas.{own_number}

-- own names are clean
pub own_clean : (g : Naming) (letter number : ℕ) → is_special letter ≡ false → number < 2 ^ 64 → IsClean (own_name g letter number)
own_clean g letter number h small = ordinary_clean (own_name g letter number) (omega arith) (marked_ordinary (suc g.under) letter (decimal number) h (decimal_ordinary number small))

pub latch_output : (g : Naming) (control : Option (List ℕ)) (ordinal : ℕ) (ls : List FlatLatch) (nexts : List Lit) (name : List ℕ) → In (map (λ (l : LatchValue). l.output) (written_latches g control ordinal ls nexts)) name
    → (j : ℕ) × (ordinal ≤ j) × (j < ordinal + length ls) × (name ≡ latch_name g j)
latch_output g control ordinal (l ∷ ls) (next ∷ nexts) name (inl e) = (ordinal, omega arith, omega arith, e)
latch_output g control ordinal (l ∷ ls) (next ∷ nexts) name (inr i) = grind (arith, latch_output g control (suc ordinal) ls nexts name i)
latch_output g control ordinal ls nexts name i = elim i [ ]

pub latches_once : (g : Naming) (control : Option (List ℕ)) (ordinal : ℕ) (ls : List FlatLatch) (nexts : List Lit) → ordinal + length ls < 2 ^ 64 → AreOnce (map (λ (l : LatchValue). l.output) (written_latches g control ordinal ls nexts))
latches_once g control ordinal (l ∷ ls) (next ∷ nexts) small = (
  λ i. let r : (j : ℕ) × (suc ordinal ≤ j) × (j < suc ordinal + length ls) × (latch_name g ordinal ≡ latch_name g j) = latch_output g control (suc ordinal) ls nexts (latch_name g ordinal) i in
      omega (arith, own_number g 108 ordinal r.0 (omega (arith, small)) (omega (arith, small, r.2)) r.3, r.1),
  latches_once g control (suc ordinal) ls nexts (omega (arith, small)),
)
latches_once g control ordinal ls nexts small = tt

abbrev pub table_names : Naming → List Lut → List (List ℕ)
table_names g luts = map (λ (u : Lut). table_name g u.lit.0) luts

pub tables_once : (g : Naming) (luts : List Lut) → ((u : Lut) → In luts u → u.lit.0 < 2 ^ 64) → AscendByLit luts → AreOnce (table_names g luts)
tables_once g [] small h = tt
tables_once g (t ∷ ts) small h = grind (arith, from_map, own_number, tables_once g ts (λ u i. small u (inr i)) h.1)

pub record IsWire (g : Naming) (os : List OutPort) (lits : List Lit) (c : CoverValue) : Type 0 where
  pub output : OutPort
  pub root : Lit
  pub output_in : In os output
  pub root_in : In lits root
  pub is : c ≡ wire_of (literal_name g root.0) output.name
  pub no_input : In g.regular output.name → ⊥

abbrev AreFed : Naming → List OutPort → List Lit → Type 0
AreFed g os lits = (i : ℕ) (o : OutPort) (lit : Lit) → slice_get os i ≡ Some o → slice_get lits i ≡ Some lit → In g.regular o.name → literal_name g lit.0 ≡ o.name

wire_there : (g : Naming) (o : OutPort) (lit : Lit) (same : Bool) → bytes_eq o.name (literal_name g lit.0) ≡ same → (c : CoverValue) → In (cond same [] (wire_of (literal_name g lit.0) o.name ∷ [])) c
    → (c ≡ wire_of (literal_name g lit.0) o.name) × (bytes_eq o.name (literal_name g lit.0) ≡ false)
wire_there g o lit same e c i = search rules

pub wires_there : (g : Naming) (os : List OutPort) (lits : List Lit) (c : CoverValue) → AreFed g os lits → In (wires g os lits) c → IsWire g os lits c
wires_there g (o ∷ os) (lit ∷ lits) c fed i = elim (In-append (wire (literal_name g lit.0) o.name) (wires g os lits) c i) [
  | inl j ↦ let r : (c ≡ wire_of (literal_name g lit.0) o.name) × (bytes_eq o.name (literal_name g lit.0) ≡ false) = wire_there g o lit (bytes_eq o.name (literal_name g lit.0)) refl c j in
      record {
        output = o;
        root = lit;
        output_in = inl refl;
        root_in = inl refl;
        is = r.0;
        no_input = λ k. let t : bytes_eq o.name (literal_name g lit.0) ≡ true = (bytes_eq-Decides o.name (literal_name g lit.0)).1 (sym (fed 0 o lit refl refl k)) in let f : bytes_eq o.name (literal_name g lit.0) ≡ false = r.1 in let wrong : ⊥ = cc in wrong;
      }
  | inr j ↦ let w : IsWire g os lits c = wires_there g os lits c (λ k p q e f. fed (suc k) p q e f) j in
      record { output = w.output; root = w.root; output_in = inr w.output_in; root_in = inr w.root_in; is = w.is; no_input = w.no_input }
]
wires_there g os lits c fed i = elim i [ ]

names_by : (g : Naming) (o : OutPort) (os : List OutPort) (lit : Lit) (lits : List Lit) (name : List ℕ) (same : Bool) → (In (map (λ (c : CoverValue). c.output) (wires g os lits)) name → In (map (λ (p : OutPort). p.name) os) name)
    → In (map (λ (c : CoverValue). c.output) (cond same [] (wire_of (literal_name g lit.0) o.name ∷ []) ++ wires g os lits)) name → In (map (λ (p : OutPort). p.name) (o ∷ os)) name
names_by g o os lit lits name same later i = search rules

wire_names_in : (g : Naming) (os : List OutPort) (lits : List Lit) (name : List ℕ) → In (map (λ (c : CoverValue). c.output) (wires g os lits)) name → In (map (λ (o : OutPort). o.name) os) name
wire_names_in g (o ∷ os) (lit ∷ lits) name i = names_by g o os lit lits name (bytes_eq o.name (literal_name g lit.0)) (wire_names_in g os lits name) i
wire_names_in g os lits name i = elim i [ ]

once_by : (g : Naming) (o : OutPort) (os : List OutPort) (lit : Lit) (lits : List Lit) (same : Bool) → (In (map (λ (p : OutPort). p.name) os) o.name → ⊥) → AreOnce (map (λ (c : CoverValue). c.output) (wires g os lits))
    → AreOnce (map (λ (c : CoverValue). c.output) (cond same [] (wire_of (literal_name g lit.0) o.name ∷ []) ++ wires g os lits))
once_by g o os lit lits same apart h = search (rules, wire_names_in)

pub wires_once : (g : Naming) (os : List OutPort) (lits : List Lit) → AreOnce (map (λ (o : OutPort). o.name) os) → AreOnce (map (λ (c : CoverValue). c.output) (wires g os lits))
wires_once g (o ∷ os) (lit ∷ lits) h = once_by g o os lit lits (bytes_eq o.name (literal_name g lit.0)) h.0 (wires_once g os lits h.1)
wires_once g os lits h = tt

-- What is said of the covers of tables: each is by its on-set, under its own name, and reads its leaves and bits; and the names of the bits stand once.
pub record AreCovers (g : Naming) (luts : List Lut) (bits : List (List (List ℕ))) (table : Lut → CoverValue) : Type 0 where
  pub output : (u : Lut) → (table u).output ≡ table_name g u.lit.0
  pub on : (u : Lut) → (table u).value ≡ true
  pub inputs : (u : Lut) → In luts u → (name : List ℕ) → In (table u).inputs name → In (leaf_names g u) name ⊎ In (flat_map (λ (l : List (List ℕ)). l) bits) name
  pub cells : (u : Lut) → IsWellFormedBody (Cover (table u))
  pub bits_own : (name : List ℕ) → In (flat_map (λ (l : List (List ℕ)). l) bits) name → (b : ℕ) × (b < 2 ^ 64) × (name ≡ bit_name g b)
  pub bits_once : AreOnce (flat_map (λ (l : List (List ℕ)). l) bits)

-- the outputs of the commands
pub table_outputs_are : (g : Naming) (table : Lut → CoverValue) (luts : List Lut) → ((u : Lut) → (table u).output ≡ table_name g u.lit.0) → map (λ (c : CoverValue). c.output) (map table luts) ≡ table_names g luts
table_outputs_are g table [] h = refl
table_outputs_are g table (u ∷ us) h = ap (λ (t : List ℕ). t ∷ map (λ (c : CoverValue). c.output) (map table us)) (h u) ∙ ap (λ (t : List (List ℕ)). table_name g u.lit.0 ∷ t) (table_outputs_are g table us h)

-- the rank of a name: a table's is by its literal, and an output that is a wire stands above all tables
abbrev pub rank_in : Naming → List Lut → List ℕ → ℕ
rank_in g [] name = 0
rank_in g (u ∷ us) name = cond (bytes_eq name (table_name g u.lit.0)) (suc u.lit.0) (rank_in g us name)

abbrev pub rank_of : Naming → List Lut → List ℕ → ℕ
rank_of g luts name = cond (nat_le (underscores name) g.under) (2 ^ 33) (rank_in g luts name)

pub rank_by : (g : Naming) (us : List Lut) (u : Lut) (lit : ℕ) (same : Bool) → bytes_eq (table_name g lit) (table_name g u.lit.0) ≡ same → u.lit.0 < 2 ^ 64 → lit < 2 ^ 64 → (rank_in g us (table_name g lit) ≡ suc lit) ⊎ (lit ≡ u.lit.0)
    → cond same (suc u.lit.0) (rank_in g us (table_name g lit)) ≡ suc lit
rank_by g us u lit same e small other h = search (rules, own_number, bytes_eq-Decides, bytes_eq)

pub rank_there : (g : Naming) (luts : List Lut) (u : Lut) → ((w : Lut) → In luts w → w.lit.0 < 2 ^ 64) → In luts u → rank_in g luts (table_name g u.lit.0) ≡ suc u.lit.0
rank_there g [] u small i = elim i [ ]
rank_there g (w ∷ ws) u small (inl e) = search (rules, rank_by, bytes_eq)
rank_there g (w ∷ ws) u small (inr i) =
    rank_by g ws w u.lit.0 (bytes_eq (table_name g u.lit.0) (table_name g w.lit.0)) refl (small w (inl refl)) (small u (inr i)) (inl (rank_there g ws u (λ k j. small k (inr j)) i))

pub in_control : (control : Option (List ℕ)) (name : List ℕ) → In (control_names control) name → control ≡ Some name
in_control control name i = search rules

pub control_once : (control : Option (List ℕ)) → AreOnce (control_names control)
control_once control = search rules

pub regular_once : (flat : FlatValue) (params : List Param) → AreOnce flat.inputs → AreOnce (regular_names flat params)
regular_once flat params h = filtered_apart (λ (name : List ℕ). not (has_name (param_names params) name)) flat.inputs h

pub wire_formed : (root name : List ℕ) → IsWellFormedBody (Cover (wire_of root name))
wire_formed root name row h = search rules

pub in_lines : {A : Type 0} (lines : List (List A)) (names : List A) (name : A) → In lines names → In names name → In (flat_map (λ (l : List A). l) lines) name
in_lines [] names name i j = elim i [ ]
in_lines (line ∷ lines) names name (inl e) j = In-left line (flat_map (λ l. l) lines) name (subst (λ k. In k name) e j)
in_lines (line ∷ lines) names name (inr i) j = In-right line (flat_map (λ l. l) lines) name (in_lines lines names name i j)

pub control_named_in : (control : Option (List ℕ)) (name : List ℕ) → control ≡ Some name → In (control_names control) name
control_named_in control name e = grind arith

pub outputs_clean : (os : List OutPort) → ((o : OutPort) → In os o → IsClean o.name) → (name : List ℕ) → In (map (λ (o : OutPort). o.name) os) name → IsClean name
outputs_clean os h name i = grind (arith, from_map)

pub later_wire : (g : Naming) (o : OutPort) (lit : Lit) (os : List OutPort) (lits : List Lit) (name : List ℕ) → In (map (λ (c : CoverValue). c.output) (wires g os lits)) name → In (map (λ (c : CoverValue). c.output) (wires g (o ∷ os) (lit ∷ lits))) name
later_wire g o lit os lits name i = grind arith
