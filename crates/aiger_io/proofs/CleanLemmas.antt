-- The library of a text is well formed, its names are clean, and those of its ports short.
use Rattle.aiger_io.proofs.Common.{◌≡◌, lit<, ℕ, zero, suc, ◌+◌, ◌-◌, ◌/◌, ◌<◌, ◌≤◌, List, [], ◌∷◌, ◌++◌, length, drop, Some, Ok, inl, inr, refl, sym, ap, ◌∙◌, subst, arith, length-drop, slice_get, lines, length-replicate, same_Some, In, In-append, In-left, In-right, RowValue, LibraryValue, Ports, ports_of, input_ports, output_ports, clock_ports, Cell, Command, AreOnce, named_count, Circuit, circuit_of, IsLibraryIn, mark_of, variable_name, next_name, cell_of, cover_command, port_name, item_commands, commands_from, commands_of, model_of, library_of, item_count, no_name, no_symbols, Header, Item, Input, Latch, Output, And, left_apart, right_apart, ◌*◌, ◌^◌, true, false, ◌&&◌, ◌⊎◌, decimal, codes, length-append, and_parts, length-decimal-le, slice_get_within, In-get_or, AreClean, IsCleanBody, HasCleanNames, IsClean, is_special, ordinary_clean, word_clean, one_clean, more_clean, byte_ordinary, decimal_ordinary, marked_ordinary, own_name, default_name, is_literal, is_variable, SymbolsValue, rules}
use Rattle.netlist.specs.WellFormed.{IsWellFormedBody, IsWellFormed}
use Rattle.aiger_io.proofs.PortLemmas.{AreNamed, symbols_named, ports_once, IsPortName, by_symbol, by_default, port_name_of, inputs_length, outputs_length}
use Rattle.aiger_io.proofs.LineLemmas.{IsCircuitOf, circuit_read, symbols_sized, header_small}
use Rattle.aiger_io.proofs.RowLemmas.{lines_few, lines_short, In-drop}
use Rattle.netlist.specs.ShortPorts.{HasShortPorts}
use Rattle.aiger_io.proofs.PlaceLemmas.{AreItems, IsItemAt, of_input, of_output, literal_low, variable_low, items_known}

-- what holds of the commands of each line holds of all
module _ (P : Command → Type 0) (mark : List ℕ) (h : Header) (inputs outputs : List (List ℕ)) where
  pub all_commands : (place : ℕ) (items : List Item) → ((q : ℕ) (item : Item) (c : Command) → slice_get items q ≡ Some item → In (item_commands mark h inputs outputs (place + q) item) c → P c) → (c : Command) → In (commands_from mark h inputs outputs place items) c → P c
  all_commands place [] each c i = absurd i
  all_commands place (item ∷ items) each c i = elim (In-append (item_commands mark h inputs outputs place item) (commands_from mark h inputs outputs (place + 1) items) c i) [
    | inl j ↦ (let z : place ≡ place + 0 = omega arith in each zero item c refl (subst (λ p. In (item_commands mark h inputs outputs p item) c) z j))
    | inr j ↦ all_commands (place + 1) items
        (λ q it d at k. let z : place + 1 + q ≡ place + suc q = omega arith in each (suc q) it d at (subst (λ p. In (item_commands mark h inputs outputs p it) d) z k)) c j
  ]

-- one row for as many inputs
one_row : (inputs : List (List ℕ)) (cells : List Cell) → length cells ≡ length inputs → (row : RowValue) → In (record { cells = cells } ∷ []) row → length row.cells ≡ length inputs
one_row inputs cells e row e2 = grind arith

cover_formed : (line : ℕ) (inputs : List (List ℕ)) (output : List ℕ) (cells : List Cell) (c : Command) → length cells ≡ length inputs → c ≡ cover_command line inputs output cells → IsWellFormedBody c.body
cover_formed line inputs output cells c e same = subst (λ (d : Command). IsWellFormedBody d.body) (sym same) (one_row inputs cells e)

item_formed : (mark : List ℕ) (h : Header) (inputs outputs : List (List ℕ)) (p : ℕ) (item : Item) (c : Command) → In (item_commands mark h inputs outputs p item) c → IsWellFormedBody c.body
item_formed mark h inputs outputs p item c e = grind (arith, cover_formed)

commands_formed : (mark : List ℕ) (c : Circuit) (command : Command) → In (commands_of mark c) command → IsWellFormedBody command.body
commands_formed mark c command (inl same) = subst (λ (d : Command). IsWellFormedBody d.body) (sym same) (λ row i. absurd i)
commands_formed mark c command (inr i) =
    all_commands (λ (d : Command). IsWellFormedBody d.body) mark c.header c.inputs c.outputs 0 c.items (λ q item d at j. item_formed mark c.header c.inputs c.outputs (0 + q) item d j) command i

circuit_ports : (c : Circuit) → AreOnce c.inputs → AreOnce c.outputs → (p : Ports) → AreOnce (ports_of p (model_of c))
circuit_ports c i o p = grind arith

pub circuit_formed : (c : Circuit) → AreOnce c.inputs → AreOnce c.outputs → IsWellFormed (library_of c)
circuit_formed c i o = search (rules, lit<, circuit_ports, commands_formed)

-- what was read has few names
pub small_names : (text : List ℕ) (c : Circuit) (r : IsCircuitOf text c) → length text ≤ 67108864 → named_count r.header < 4294967296
small_names text c r l = omega (arith, r.all.within, length-drop 1 (lines text), lines_few text)

pub said_size : (text : List ℕ) (c : Circuit) (r : IsCircuitOf text c) → length r.said.names ≡ named_count r.header
said_size text c r = (symbols_sized r.header (item_count r.header + 2) (no_symbols r.header) r.said (drop (item_count r.header) (drop 1 (lines text))) r.said_are).names ∙ length-replicate (named_count r.header) no_name

pub said_named : (text : List ℕ) (c : Circuit) (r : IsCircuitOf text c) → AreNamed (length text) r.said
said_named text c r = symbols_named (length text) r.header (item_count r.header + 2) r.said (drop (item_count r.header) (drop 1 (lines text)))
    (λ row i. lines_short text row (In-drop 1 (lines text) row (In-drop (item_count r.header) (drop 1 (lines text)) row i))) r.said_are

pub text_ports_once : (text : List ℕ) (c : Circuit) → length text ≤ 67108864 → circuit_of text ≡ Ok c → AreOnce (c.inputs ++ c.outputs)
text_ports_once text c l is =
    let r = circuit_read text c is in
    subst (λ (d : Circuit). AreOnce (d.inputs ++ d.outputs)) (sym r.is)
    (ports_once r.header r.said (length text) (item_count r.header + 2) (said_size text c r) (small_names text c r l) (said_named text c r) r.none_twice)

pub text_formed : (text : List ℕ) → length text ≤ 67108864 → (library : LibraryValue) → IsLibraryIn (circuit_of text) library → IsWellFormed library
text_formed text l library made =
    let once = text_ports_once text made.circuit l made.is in
    subst IsWellFormed (sym made.made) (circuit_formed made.circuit (left_apart made.circuit.inputs made.circuit.outputs once) (right_apart made.circuit.inputs made.circuit.outputs once))

-- the commands of each line are among all
pub of_item : (mark : List ℕ) (h : Header) (inputs outputs : List (List ℕ)) (p : ℕ) (items : List Item) (q : ℕ) (item : Item) (d : Command) → slice_get items q ≡ Some item → In (item_commands mark h inputs outputs (p + q) item) d → In (commands_from mark h inputs outputs p items) d
of_item mark h inputs outputs p [] q item d e i = absurd (cc)
of_item mark h inputs outputs p (first ∷ items) zero item d e i = grind (arith, same_Some)
of_item mark h inputs outputs p (first ∷ items) (suc q) item d e i =
    let z : p + suc q ≡ p + 1 + q = omega arith in
    In-right (item_commands mark h inputs outputs p first) (commands_from mark h inputs outputs (p + 1) items) d (of_item mark h inputs outputs (p + 1) items q item d e (subst (λ n. In (item_commands mark h inputs outputs n item) d) z i))

-- letters and digits, behind marks
letter_ordinary : (b : ℕ) → 93 ≤ b → b < 123 → is_special b ≡ false
letter_ordinary b low high = byte_ordinary b (omega arith) high (λ e. omega arith)

pub default_clean : (letter k : ℕ) → (letter ≡ 105) ⊎ (letter ≡ 111) → k < 2 ^ 64 → IsClean (default_name letter k)
default_clean letter k which l = grind (arith, ordinary_clean, marked_ordinary, decimal, letter_ordinary, decimal_ordinary)

-- names of commands
cover_clean : (line : ℕ) (inputs : List (List ℕ)) (output : List ℕ) (cells : List Cell) (c : Command) → AreClean inputs → IsClean output → c ≡ cover_command line inputs output cells → IsCleanBody c.body
cover_clean line inputs output cells c i o same = subst (λ (d : Command). IsCleanBody d.body) (sym same) (i, o)

-- what a circuit that was read keeps
pub record IsKept (c : Circuit) : Type 0 where
  pub most : c.header.variables ≤ 1073741824
  pub items : AreItems c.header c.items
  pub inputs : length c.inputs ≡ c.header.inputs
  pub outputs : length c.outputs ≡ c.header.outputs
  pub count : length c.items < 4294967296
  pub all : length c.items ≡ item_count c.header
  pub clean : (x : List ℕ) → In (c.inputs ++ c.outputs) x → IsClean x
  pub short : (x : List ℕ) → In (c.inputs ++ c.outputs) x → length x < 4294967296

module _ (c : Circuit) (kept : IsKept c) where
  name_clean : (letter n : ℕ) → 93 ≤ letter → letter < 123 → n < 2 ^ 64 → IsClean (own_name (mark_of (c.inputs ++ c.outputs)) letter n)
  name_clean letter n low high l = search (rules, ordinary_clean, length-append, decimal, marked_ordinary, letter_ordinary, decimal_ordinary)

  read_clean : (l : ℕ) → is_literal c.header.variables l ≡ true → IsClean (variable_name (mark_of (c.inputs ++ c.outputs)) (l / 2))
  read_clean l t = let m : c.header.variables ≤ 1073741824 = kept.most in let u : l ≤ 2 * c.header.variables + 1 = literal_low c.header.variables l t in name_clean 118 (l / 2) (omega arith) (omega arith) (omega arith)

  own_variable : (l : ℕ) → is_variable c.header.variables l ≡ true → IsClean (variable_name (mark_of (c.inputs ++ c.outputs)) (l / 2))
  own_variable l t = let m : c.header.variables ≤ 1073741824 = kept.most in let u : l ≤ 2 * c.header.variables = (variable_low c.header.variables l t).1 in name_clean 118 (l / 2) (omega arith) (omega arith) (omega arith)

  input_clean : (q : ℕ) → q < c.header.inputs → IsClean (port_name c.inputs (0 + q))
  input_clean q l = let n : length c.inputs ≡ c.header.inputs = kept.inputs in kept.clean (port_name c.inputs (0 + q)) (In-left c.inputs c.outputs (port_name c.inputs (0 + q)) (In-get_or c.inputs (0 + q) [] (omega arith)))

  output_clean : (k : ℕ) → k < c.header.outputs → IsClean (port_name c.outputs k)
  output_clean k l = let n : length c.outputs ≡ c.header.outputs = kept.outputs in kept.clean (port_name c.outputs k) (In-right c.inputs c.outputs (port_name c.outputs k) (In-get_or c.outputs k [] (omega arith)))

  item_clean : (q : ℕ) (item : Item) (d : Command) → q < 4294967296 → IsItemAt c.header q item → In (item_commands (mark_of (c.inputs ++ c.outputs)) c.header c.inputs c.outputs (0 + q) item) d → IsCleanBody d.body
  item_clean q (Input own) d l at (inl same) = search (rules, cover_clean, one_clean, input_clean, of_input, own_variable)
  item_clean q (Input own) d l at (inr i) = absurd i
  item_clean q (Latch own next init) d l at (inl same) =
      let r = and_parts (is_variable c.header.variables own) (is_literal c.header.variables next) at.range in
      cover_clean (0 + q + 2) (variable_name (mark_of (c.inputs ++ c.outputs)) (next / 2) ∷ []) (next_name (mark_of (c.inputs ++ c.outputs)) (0 + q - c.header.inputs)) (cell_of next ∷ []) d
      (one_clean (variable_name (mark_of (c.inputs ++ c.outputs)) (next / 2)) (read_clean next r.1)) (name_clean 120 (0 + q - c.header.inputs) (omega arith) (omega arith) (omega arith)) same
  item_clean q (Latch own next init) d l at (inr (inl same)) = grind (arith, and_parts, name_clean, own_variable)
  item_clean q (Latch own next init) d l at (inr (inr i)) = absurd i
  item_clean q (Output o) d l at (inl same) =
      let w = of_output c.header q at.kind in
      cover_clean (0 + q + 2) (variable_name (mark_of (c.inputs ++ c.outputs)) (o / 2) ∷ []) (port_name c.outputs (0 + q - (c.header.inputs + c.header.latches))) (cell_of o ∷ []) d
      (one_clean (variable_name (mark_of (c.inputs ++ c.outputs)) (o / 2)) (read_clean o at.range)) (output_clean (0 + q - (c.header.inputs + c.header.latches)) (omega arith)) same
  item_clean q (Output o) d l at (inr i) = absurd i
  item_clean q (And own left right) d l at (inl same) =
      let r = and_parts (is_variable c.header.variables own) (is_literal c.header.variables left && is_literal c.header.variables right) at.range in
      let t = and_parts (is_literal c.header.variables left) (is_literal c.header.variables right) r.1 in
      cover_clean (0 + q + 2) (variable_name (mark_of (c.inputs ++ c.outputs)) (right / 2) ∷ variable_name (mark_of (c.inputs ++ c.outputs)) (left / 2) ∷ []) (variable_name (mark_of (c.inputs ++ c.outputs)) (own / 2)) (cell_of right ∷ cell_of left ∷ []) d
      (more_clean (variable_name (mark_of (c.inputs ++ c.outputs)) (right / 2)) (variable_name (mark_of (c.inputs ++ c.outputs)) (left / 2) ∷ []) (read_clean right t.1) (one_clean (variable_name (mark_of (c.inputs ++ c.outputs)) (left / 2)) (read_clean left t.0))) (own_variable own r.0) same
  item_clean q (And own left right) d l at (inr i) = absurd i

  commands_clean : (d : Command) → In (commands_of (mark_of (c.inputs ++ c.outputs)) c) d → IsCleanBody d.body
  commands_clean d (inl same) = subst (λ (e : Command). IsCleanBody e.body) (sym same) ((λ x i. absurd i), name_clean 118 0 (omega arith) (omega arith) (lit< tt))
  commands_clean d (inr i) = all_commands (λ (e : Command). IsCleanBody e.body) (mark_of (c.inputs ++ c.outputs)) c.header c.inputs c.outputs 0 c.items
      (λ q item e at j. item_clean q item e (let w : q < length c.items = slice_get_within c.items q item at in let n : length c.items < 4294967296 = kept.count in omega arith) (kept.items q item at) j) d i

  ports_clean : (p : Ports) → AreClean (ports_of p (model_of c))
  ports_clean input_ports x i = kept.clean x (In-left c.inputs c.outputs x i)
  ports_clean output_ports x i = kept.clean x (In-right c.inputs c.outputs x i)
  ports_clean clock_ports x i = absurd i

  pub circuit_clean : HasCleanNames (library_of c)
  circuit_clean = search (rules, word_clean, codes, lit<, ports_clean, commands_clean)

-- of a text
port_clean : (said : SymbolsValue) (most : ℕ) (x : List ℕ) → AreNamed most said → length said.names < 4294967296 → IsPortName said x → IsClean x
port_clean said most x are few (by_symbol p at) = (are.good p x at).clean
port_clean said most x are few (by_default letter k p o which low at is) =
    let l : p < length said.names = slice_get_within said.names p o at in let w : k ≤ p = low in subst IsClean (sym is) (default_clean letter k which (omega arith))

port_short : (said : SymbolsValue) (most : ℕ) (x : List ℕ) → AreNamed most said → length said.names < 4294967296 → most < 4294967296 → IsPortName said x → length x < 4294967296
port_short said most x are few small (by_symbol p at) = let l : length x ≤ most = (are.good p x at).short in omega arith
port_short said most x are few small (by_default letter k p o which low at is) =
    let l : p < length said.names = slice_get_within said.names p o at in let w : k ≤ p = low in
    let n : length x ≡ length (letter ∷ decimal k) = ap length is in omega (arith, length-decimal-le 10 k (lit< tt) (omega arith) (omega arith))

pub text_kept : (text : List ℕ) (c : Circuit) → length text ≤ 67108864 → circuit_of text ≡ Ok c → IsKept c
text_kept text c l is =
    let r = circuit_read text c is in
    let few : named_count r.header < 4294967296 = small_names text c r l in
    let size : length r.said.names ≡ named_count r.header = said_size text c r in
    let names : length r.said.names < 4294967296 = omega arith in
    subst IsKept (sym r.is) (record {
      most = (header_small r.header r.whole).most;
      items = items_known r.header [] r.items (drop 1 (lines text)) (λ p item e. absurd (cc)) r.items_are;
      inputs = inputs_length r.header r.said size;
      outputs = outputs_length r.header r.said size;
      count = omega (arith, length-drop 1 (lines text), lines_few text);
      all = r.all.count;
      clean = λ x i. port_clean r.said (length text) x (said_named text c r) names (port_name_of r.header r.said size x i);
      short = λ x i. port_short r.said (length text) x (said_named text c r) names (omega arith) (port_name_of r.header r.said size x i);
    })

pub text_clean : (text : List ℕ) → length text ≤ 67108864 → (library : LibraryValue) → IsLibraryIn (circuit_of text) library → HasCleanNames library
text_clean text l library made = subst HasCleanNames (sym made.made) (circuit_clean made.circuit (text_kept text made.circuit l made.is))

circuit_short : (c : Circuit) → IsKept c → HasShortPorts (library_of c)
circuit_short c kept m e name i = grind arith

pub text_short : (text : List ℕ) → length text ≤ 67108864 → (library : LibraryValue) → IsLibraryIn (circuit_of text) library → HasShortPorts library
text_short text l library made = subst HasShortPorts (sym made.made) (circuit_short made.circuit (text_kept text made.circuit l made.is))

pub text_few : (text : List ℕ) (library : LibraryValue) → IsLibraryIn (circuit_of text) library → length library.models ≡ 1
text_few text library made = ap (λ (l : LibraryValue). length l.models) made.made
