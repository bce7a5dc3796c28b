-- A library holds no more than the bytes of its text.
use Rattle.blif_read.proofs.Common.{◌≡◌, ℕ, ◌+◌, ◌≤◌, List, [], ◌∷◌, ◌++◌, length, map, Option, refl, ap, ◌∙◌, arith, length-append, LineValue, Cover, Latch, Subckt, Command, Keyword, Connection, CoverValue, SubcktValue, ModelValue, LibraryValue, Ports, input_ports, output_ports, clock_ports, StatementValue, keyword_of, arguments_of, statement_at, statements, IsLatch, plain, with_init, with_control, whole, Controls, nil, net, connection_token, IsSubckt, port_names, names_in, IsCoverLine, AreCommands, IsModel, AreModels, Denotes, name_size, names_size, pairs_size, control_size, body_size, commands_size, model_size, models_size, library_size, ◌<◌, ◌^◌, Some, inl, inr, subst, slice_get, same_Some, none-some, In, In-append, HasShortPorts, rules}
use Rattle.tl_text.proofs.SizeLemmas.{words_size, lines_size, lines_small}
use Rattle.netlist.specs.declared.latch.Latch.{Latch as LatchValue}
use Rattle.blif_read.proofs.PortLemmas.{keyword_for, ports_line, which_ports, names_ports, skipped, rows_skipped}
use Rattle.tl_text.specs.declared.logical_lines.TheConstants.{MOST_BYTES}
use Rattle.blif_read.specs.declared.keyword.Keyword.TheVariants as keyword
use Rattle.blif_read.specs.Denotes as denotes

-- A statement: its words, and 1 for the keyword
abbrev charge : Keyword → ℕ
charge keyword.Plain = 0
charge other = 1

abbrev statement_size : StatementValue → ℕ
statement_size s = charge s.keyword + names_size s.arguments

abbrev statements_size : List StatementValue → ℕ
statements_size [] = 0
statements_size (s ∷ ss) = statement_size s + statements_size ss

words_names : (words : List (List ℕ)) → words_size words ≡ names_size words
words_names [] = refl
words_names (word ∷ words) = let r : words_size words ≡ names_size words = words_names words in omega arith

arguments_small : (k : Keyword) (word : List ℕ) (rest : List (List ℕ)) → charge k + names_size (arguments_of k word rest) ≤ name_size word + names_size rest
arguments_small keyword.Plain word rest = omega arith
arguments_small k word rest = omega arith

statement_small : (number : ℕ) (words : List (List ℕ)) → statement_size (statement_at number words) ≤ names_size words
statement_small number [] = omega arith
statement_small number (word ∷ rest) = arguments_small (keyword_of word) word rest

statements_small : (text : List ℕ) (lines : List LineValue) → statements_size (statements text lines) ≤ lines_size text lines
statements_small text [] = omega arith
statements_small text (line ∷ lines) = grind (arith, statement_size, statement_small, words_size, words_names, statements_size, lines_size, statements_small text lines)

names-append : (xs ys : List (List ℕ)) → names_size (xs ++ ys) ≡ names_size xs + names_size ys
names-append [] ys = omega arith
names-append (x ∷ xs) ys = let r : names_size (xs ++ ys) ≡ names_size xs + names_size ys = names-append xs ys in omega arith

statements-append : (xs ys : List StatementValue) → statements_size (xs ++ ys) ≡ statements_size xs + statements_size ys
statements-append [] ys = omega arith
statements-append (x ∷ xs) ys = let r : statements_size (xs ++ ys) ≡ statements_size xs + statements_size ys = statements-append xs ys in omega arith

control_small : (token : List ℕ) (control : Option (List ℕ)) → Controls token control → control_size control ≤ name_size token
control_small token control (nil e c) = let s : control_size control ≡ 0 = ap control_size c in omega arith
control_small token control (net other c) = let s : control_size control ≡ name_size token = ap control_size c in omega arith

latch_small : (words : List (List ℕ)) (l : LatchValue) → IsLatch words l → body_size (Latch l) ≤ names_size words
latch_small words l (plain w c i) = omega (arith, ap names_size w, ap control_size c)
latch_small words l (with_init init w c i) = omega (arith, ap names_size w, ap control_size c)
latch_small words l (with_control control w c i) = omega (arith, ap names_size w, control_small control l.control c)
latch_small words l (whole control init w c i) = omega (arith, ap names_size w, control_small control l.control c)

pairs_tokens : (pairs : List Connection) → pairs_size pairs ≡ names_size (map connection_token pairs)
pairs_tokens [] = refl
pairs_tokens (pair ∷ pairs) = omega (arith, length-append pair.formal (61 ∷ pair.actual), pairs_tokens pairs)

subckt_size : (words : List (List ℕ)) (s : SubcktValue) → IsSubckt words s → body_size (Subckt s) ≡ names_size words
subckt_size words s is = omega (arith, ap names_size is.words_are, pairs_tokens s.pairs)

cover_size : (s : StatementValue) (c : CoverValue) → IsCoverLine s c → body_size (Cover c) ≡ names_size s.arguments
cover_size s c is = omega (arith, ap names_size is.names, names-append c.inputs (c.output ∷ []))

abbrev ports_size : List StatementValue → ℕ
ports_size ss = names_size (names_in input_ports ss) + (names_size (names_in output_ports ss) + names_size (names_in clock_ports ss))

skipped_size : (ss rest : List StatementValue) → ((p : Ports) → names_in p ss ≡ names_in p rest) → ports_size ss ≡ ports_size rest
skipped_size ss rest same = omega (arith, ap names_size (same input_ports), ap names_size (same output_ports), ap names_size (same clock_ports))

abbrev line_size : Keyword → List (List ℕ) → List StatementValue → ℕ
line_size k names ss =
    names_size (port_names input_ports k names ++ names_in input_ports ss) + (names_size (port_names output_ports k names ++ names_in output_ports ss) + names_size (port_names clock_ports k names ++ names_in clock_ports ss))

list_size : (q : Ports) (names : List (List ℕ)) (ss : List StatementValue) → line_size (keyword_for q) names ss ≡ names_size names + ports_size ss
list_size input_ports names ss = let a : names_size (names ++ names_in input_ports ss) ≡ names_size names + names_size (names_in input_ports ss) = names-append names (names_in input_ports ss) in omega arith
list_size q names ss = let a : names_size (names ++ names_in q ss) ≡ names_size names + names_size (names_in q ss) = names-append names (names_in q ss) in omega arith

-- a command's line pays for it, and a line of ports for its names
paid : (s : StatementValue) (k : Keyword) → s.keyword ≡ k → charge k ≡ 1 → statement_size s ≡ 1 + names_size s.arguments
paid s k e c = ap (λ n. n + names_size s.arguments) (ap charge e ∙ c)

commands_small : {ss : List StatementValue} {commands : List Command} → AreCommands ss commands → ports_size ss + commands_size commands ≤ statements_size ss
commands_small denotes.none = omega arith
commands_small (denotes.end s k a) = let e : ports_size (s ∷ []) ≡ 0 = skipped_size (s ∷ []) [] (skipped s [] (ap names_ports k)) in omega arith
commands_small (denotes.ports s ss commands which are) = elim (which_ports s.keyword which) [
  | ports_line q k ↦
      let e : ports_size (s ∷ ss) ≡ names_size s.arguments + ports_size ss = ap (λ w. line_size w s.arguments ss) k ∙ list_size q s.arguments ss in omega (arith, commands_small are)
]
commands_small (denotes.cover s rows rest ss c commands is rows_are split are) = grind (arith, ports_size, statements_size, skipped_size, skipped, names_ports, rows_skipped, statements-append, cover_size, statement_size, paid, commands_small are)
commands_small (denotes.latch s ss l commands k is are) = grind (arith, ports_size, statements_size, skipped_size, skipped, names_ports, latch_small, statement_size, paid, commands_small are)
commands_small (denotes.subckt s ss l commands k is are) = grind (arith, ports_size, statements_size, skipped_size, skipped, names_ports, subckt_size, statement_size, paid, commands_small are)

model_small : (header : StatementValue) (body : List StatementValue) (m : ModelValue) → IsModel header body m → model_size m ≤ statement_size header + statements_size body
model_small header body m is = grind (arith, statement_size, paid, ports_size, statements_size, commands_small)

models_small : {ss : List StatementValue} {models : List ModelValue} → AreModels ss models → models_size models ≤ statements_size ss
models_small denotes.none = omega arith
models_small (denotes.model header body rest ss m models is split are) = grind (arith, statements_size, statements-append, statement_size, model_small, models_small are)

-- what a text denotes is at most as large as the text and 1
pub denotes_small : (bytes : List ℕ) (library : LibraryValue) → Denotes bytes library → library_size library ≤ length bytes + 1
denotes_small bytes library d = omega (arith, models_small d.models_are.models, statements_small bytes d.lines, lines_small bytes d.lines d.lines_are)

-- A library that a text denotes has few models, and the names of its main model's ports are short.
-- there are no more models than they hold
few_models : (models : List ModelValue) → length models ≤ models_size models
few_models [] = omega arith
few_models (m ∷ ms) = let h : length ms ≤ models_size ms = few_models ms in omega arith

pub denotes_few : (bytes : List ℕ) (library : LibraryValue) → length bytes ≤ MOST_BYTES → Denotes bytes library → length library.models < 2 ^ 32
denotes_few bytes library most d = grind (arith, few_models, denotes_small)

-- a name is shorter than the names that it is among
name_short : (names : List (List ℕ)) (name : List ℕ) → In names name → length name < names_size names
name_short [] name i = elim i [ ]
name_short (x ∷ xs) name (inl e) = let h : length name ≡ length x = ap length e in omega arith
name_short (x ∷ xs) name (inr i) = let h : length name < names_size xs = name_short xs name i in omega arith

-- a port of a model is shorter than the model
port_short : (m : ModelValue) (name : List ℕ) → In (m.inputs ++ (m.clocks ++ m.outputs)) name → length name < model_size m
port_short m name i = elim (In-append m.inputs (m.clocks ++ m.outputs) name i) [
  | inl a ↦ (let h : length name < names_size m.inputs = name_short m.inputs name a in omega arith)
  | inr o ↦ elim (In-append m.clocks m.outputs name o) [
    | inl b ↦ (let h : length name < names_size m.clocks = name_short m.clocks name b in omega arith)
    | inr c ↦ (let h : length name < names_size m.outputs = name_short m.outputs name c in omega arith)
  ]
]

main_small : (models : List ModelValue) (m : ModelValue) → slice_get models 0 ≡ Some m → model_size m ≤ models_size models
main_small [] m at = absurd (none-some m at)
main_small (x ∷ xs) m at = subst (λ (n : ModelValue). model_size n ≤ models_size (x ∷ xs)) (same_Some x m at) (omega arith)

pub denotes_short : (bytes : List ℕ) (library : LibraryValue) → length bytes ≤ MOST_BYTES → Denotes bytes library → HasShortPorts library
denotes_short bytes library most d m at name i = search (rules, main_small, port_short, denotes_small)
