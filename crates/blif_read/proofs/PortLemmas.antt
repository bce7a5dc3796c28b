-- The ports that lines add to a model, and that no port stands twice in its list.
use Rattle.blif_read.proofs.Common.{◌≡◌, ◌⊎◌, ℕ, Bool, true, false, List, [], ◌∷◌, ◌++◌, Option, Some, None, refl, sym, ap, ◌∙◌, subst, inl, inr, append_assoc, append-nil, Keyword, Inputs, Outputs, Clock, Plain, Body, Cover, Command, RowValue, ModelValue, Ports, input_ports, output_ports, clock_ports, ports_of, StatementValue, AreOnce, IsRow, alone, behind, AreRows, none, more, ports_fault, CoverRead, with_command, with_cover, with_ports, port_names, names_in, arith, none-some, pushed_apart, In, DuplicateModel, DuplicatePort, has, model_fault, none_both}
pub use Rattle.tl_text.proofs.NameLemmas.{not_there}

-- Lists of names in which none stands twice, and what lines without a refusal put behind them.
-- ports of a line without a refusal
pub ports_once : (n : ℕ) (words seen : List (List ℕ)) → AreOnce seen → ports_fault n seen words ≡ None → AreOnce (seen ++ words)
ports_once n [] seen o h = subst AreOnce (sym (append-nil seen)) o
ports_once n (w ∷ ws) seen o h =
    let p = none_both (has seen w) (DuplicatePort n w) (ports_fault n (seen ++ w ∷ []) ws) h in
    subst AreOnce (append_assoc seen (w ∷ []) ws) (ports_once n ws (seen ++ w ∷ []) (pushed_apart seen w o (not_there seen w p.0)) p.1)

-- the words behind `.model` are one name, that of no earlier model
pub record IsNewName (models words : List (List ℕ)) : Type 0 where
  pub name : List ℕ
  pub words_are : words ≡ name ∷ []
  pub apart : In models name → ⊥

pub model_new : (n : ℕ) (models words : List (List ℕ)) → model_fault n models words ≡ None → IsNewName models words
model_new n models (name ∷ []) h = record { name = name; words_are = refl; apart = not_there models name (none_both (has models name) (DuplicateModel n name) None h).0 }
model_new n models words h = absurd (none-some _ (sym h))

pub row_keyword : (inputs : ℕ) (value : Bool) (s : StatementValue) (row : RowValue) → IsRow inputs value s row → s.keyword ≡ Plain
row_keyword inputs value s row (alone e k words cells) = k
row_keyword inputs value s row (behind some k words count) = k

-- the keyword of each list of ports
abbrev pub keyword_for : Ports → Keyword
keyword_for input_ports = Inputs
keyword_for output_ports = Outputs
keyword_for clock_ports = Clock

pub data IsPorts (k : Keyword) : Type 0 where
  ports_line : (q : Ports) → k ≡ keyword_for q → IsPorts k

pub which_ports : (k : Keyword) → (k ≡ Inputs) ⊎ ((k ≡ Outputs) ⊎ (k ≡ Clock)) → IsPorts k
which_ports k (inl e) = ports_line input_ports e
which_ports k (inr (inl e)) = ports_line output_ports e
which_ports k (inr (inr e)) = ports_line clock_ports e

pub own_names : (q : Ports) (names : List (List ℕ)) → port_names q (keyword_for q) names ≡ names
own_names input_ports names = refl
own_names q names = refl

abbrev pub line_of : Keyword → ℕ → List (List ℕ) → StatementValue
line_of k n words = record { number = n; keyword = k; arguments = words }

abbrev pub command_of : ℕ → Body → Command
command_of n made = record { line = n; body = made }

pub names_in-append : (p : Ports) (a b : List StatementValue) → names_in p (a ++ b) ≡ names_in p a ++ names_in p b
names_in-append p [] b = refl
names_in-append p (s ∷ ss) b = grind (arith, append_assoc, names_in-append p ss b)

abbrev pub names_ports : Keyword → Bool
names_ports Inputs = true
names_ports Outputs = true
names_ports Clock = true
names_ports other = false

no_names : (p : Ports) (k : Keyword) (words : List (List ℕ)) → names_ports k ≡ false → port_names p k words ≡ []
no_names input_ports Inputs words h = absurd (cc)
no_names output_ports Outputs words h = absurd (cc)
no_names clock_ports Clock words h = absurd (cc)
no_names p k words h = refl

pub skipped : (s : StatementValue) (ss : List StatementValue) → names_ports s.keyword ≡ false → (p : Ports) → names_in p (s ∷ ss) ≡ names_in p ss
skipped s ss quiet p = ap (λ names. names ++ names_in p ss) (no_names p s.keyword s.arguments quiet)

pub rows_skipped : (inputs : ℕ) (value : Bool) (rest : List StatementValue) (p : Ports) {lines : List StatementValue} {rows : List RowValue} → AreRows inputs value lines rows → names_in p (lines ++ rest) ≡ names_in p rest
rows_skipped inputs value rest p none = refl
rows_skipped inputs value rest p (more s ss row rows is are) = skipped s (ss ++ rest) (ap names_ports (row_keyword inputs value s row is)) p ∙ rows_skipped inputs value rest p are

pub names_in-rows : (p : Ports) {inputs : ℕ} {value : Bool} {lines : List StatementValue} {rows : List RowValue} → AreRows inputs value lines rows → names_in p lines ≡ []
names_in-rows p {inputs = inputs} {value = value} {lines = lines} are = ap (names_in p) (sym (append-nil lines)) ∙ rows_skipped inputs value [] p are

-- how the three kinds of ports grow
pub is_port : (q : Ports) → (keyword_for q ≡ Inputs) ⊎ ((keyword_for q ≡ Outputs) ⊎ (keyword_for q ≡ Clock))
is_port input_ports = inl refl
is_port output_ports = inr (inl refl)
is_port clock_ports = inr (inr refl)

pub ports_grown : (p q : Ports) (m : ModelValue) (words : List (List ℕ)) → ports_of p (with_ports q words m) ≡ ports_of p m ++ port_names p (keyword_for q) words
ports_grown input_ports input_ports m words = refl
ports_grown output_ports output_ports m words = refl
ports_grown clock_ports clock_ports m words = refl
ports_grown p q m words = sym (append-nil (ports_of p m))

-- no port of a model stands twice in its list
abbrev pub HasOnce : ModelValue → Type 0
HasOnce m = (p : Ports) → AreOnce (ports_of p m)

pub once_grown : (p q : Ports) (n : ℕ) (m : ModelValue) (words : List (List ℕ)) → HasOnce m → ports_fault n (ports_of q m) words ≡ None → AreOnce (ports_of p (with_ports q words m))
once_grown input_ports input_ports n m words o h = ports_once n words m.inputs (o input_ports) h
once_grown output_ports output_ports n m words o h = ports_once n words m.outputs (o output_ports) h
once_grown clock_ports clock_ports n m words o h = ports_once n words m.clocks (o clock_ports) h
once_grown p q n m words o h = o p

pub ports_keep : (q : Ports) (words : List (List ℕ)) (m : ModelValue) → ((with_ports q words m).name ≡ m.name) × ((with_ports q words m).line ≡ m.line) × ((with_ports q words m).commands ≡ m.commands)
ports_keep input_ports words m = (refl, refl, refl)
ports_keep q words m = (refl, refl, refl)

-- a command adds none
pub ports_commanded : (p : Ports) (m : ModelValue) (n : ℕ) (made : Body) → ports_of p (with_command m n made) ≡ ports_of p m
ports_commanded input_ports m n made = refl
ports_commanded p m n made = refl

-- nor does the last cover
pub ports_flushed : (p : Ports) (m : ModelValue) (c : Option CoverRead) → ports_of p (with_cover m c) ≡ ports_of p m
ports_flushed p m None = refl
ports_flushed p m (Some c) = ports_commanded p m c.line (Cover c.cover)

pub once_commanded : (m : ModelValue) (n : ℕ) (made : Body) → HasOnce m → HasOnce (with_command m n made)
once_commanded m n made o p = subst AreOnce (sym (ports_commanded p m n made)) (o p)

pub quiet_line : (p : Ports) (k : Keyword) (n : ℕ) (words : List (List ℕ)) (ss : List StatementValue) → names_ports k ≡ false → names_in p ss ≡ [] → names_in p (line_of k n words ∷ ss) ≡ []
quiet_line p k n words ss none_here none_there = skipped (line_of k n words) ss none_here p ∙ none_there
