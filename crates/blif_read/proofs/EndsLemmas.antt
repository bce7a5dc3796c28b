-- The models that lines end with, from the open model and its last cover, and how a line before them changes that.
use Rattle.blif_read.proofs.Common.{◌≡◌, ℕ, ◌<◌, Bool, List, [], ◌∷◌, ◌++◌, length, Option, Some, None, refl, sym, ap, ◌∙◌, subst, arith, none-some, Model, Names, Plain, Body, Command, CoverValue, RowValue, ModelValue, Ports, input_ports, ports_of, StatementValue, IsRow, AreRows, none, more, RowRead, row_of, mixed_fault, row_read_fault, CoverRead, State, with_command, ended, value_so_far, first_word, fresh, with_ports, cover_of, with_row, append-nil, append_assoc, rules}
use Rattle.blif_read.specs.Denotes.{port_names, names_in, AreCommands, AreModels, none, ports as ports_line, cover as cover_lines, model as model_lines}
use Rattle.blif_read.proofs.FaultLemmas.{same_value, value_there, some_push}
use Rattle.blif_read.proofs.PortLemmas.{IsNewName, keyword_for, line_of, command_of, names_in-append, names_in-rows, is_port, ports_grown, HasOnce, ports_keep, ports_commanded, quiet_line}
use Rattle.blif_read.proofs.FormedLemmas.{row_is}
use Rattle.netlist.specs.declared.command.Body.TheVariants as body

-- The end that the lines lead to, where no model is open: models that the lines denote.
pub record EndsClosed (done : List ModelValue) (ss : List StatementValue) (t : State) : Type 0 where
  pub made : List ModelValue
  pub ended_is : ended t ≡ done ++ made
  pub denoted : AreModels ss made

-- Where a model is open: the lines up to the next `.model` end it, and the others are models.
pub record EndsOpen (done : List ModelValue) (m : ModelValue) (ss : List StatementValue) (t : State) : Type 0 where
  pub lines : List StatementValue
  pub rest : List StatementValue
  pub whole : ModelValue
  pub made : List ModelValue
  pub commands : List Command
  pub split : ss ≡ lines ++ rest
  pub ended_is : ended t ≡ done ++ whole ∷ made
  pub denoted : AreModels rest made
  pub name_is : whole.name ≡ m.name
  pub line_is : whole.line ≡ m.line
  pub ports_are : (p : Ports) → ports_of p whole ≡ ports_of p m ++ names_in p lines
  pub once : HasOnce whole
  pub commands_are : whole.commands ≡ m.commands ++ commands
  pub commanded : AreCommands lines commands

-- Where its last cover may have further rows: these come first.
pub record EndsCover (done : List ModelValue) (m : ModelValue) (c : CoverRead) (ss : List StatementValue) (t : State) : Type 0 where
  pub lines : List StatementValue
  pub later : List StatementValue
  pub value : Bool
  pub rows : List RowValue
  pub split : ss ≡ lines ++ later
  pub rows_are : AreRows (length c.cover.inputs) value lines rows
  pub first : 0 < length c.cover.rows → value ≡ c.cover.value
  pub none_more : rows ≡ [] → value ≡ c.cover.value
  pub behind_them : EndsOpen done (with_command m c.line (body.Cover (record c.cover { value = value; rows = c.cover.rows ++ rows }))) later t

-- an open model that some lines made from an earlier one ends as this one with these lines before
open_more : (done : List ModelValue) (m grown : ModelValue) (front later ss : List StatementValue) (new : List Command) (t : State) → ss ≡ front ++ later → grown.name ≡ m.name → grown.line ≡ m.line
    → ((p : Ports) → ports_of p grown ≡ ports_of p m ++ names_in p front) → grown.commands ≡ m.commands ++ new
    → ((lines : List StatementValue) (commands : List Command) → AreCommands lines commands → AreCommands (front ++ lines) (new ++ commands)) → EndsOpen done grown later t → EndsOpen done m ss t
open_more done m grown front later ss new t split name line ports commands commanded e = search (rules, append_assoc, names_in-append)

-- a model without ports so far, from its header
pub header_once : (words : List (List ℕ)) (n : ℕ) → HasOnce (fresh words n).model
header_once words n input_ports = tt
header_once words n q = tt

header_ports : (p : Ports) (words : List (List ℕ)) (n : ℕ) (names : List (List ℕ)) → ports_of p (fresh words n).model ++ names ≡ names
header_ports input_ports words n names = refl
header_ports q words n names = refl

pub header_denoted : (models words : List (List ℕ)) (n : ℕ) (done : List ModelValue) (ss : List StatementValue) (t : State) → IsNewName models words → (e : EndsOpen done (fresh words n).model ss t)
    → AreModels (line_of Model n words ∷ ss) (e.whole ∷ e.made)
header_denoted models words n done ss t new e =
    model_lines (line_of Model n words) e.lines e.rest ss e.whole e.made
    (record {
      is = refl;
      name = new.words_are ∙ ap (λ w. w ∷ []) (sym (e.name_is ∙ ap first_word new.words_are));
      line = e.line_is;
      ports = λ p. e.ports_are p ∙ header_ports p words n (names_in p e.lines);
      once = e.once;
      commands = subst (AreCommands e.lines) (sym e.commands_are) e.commanded;
    }) e.split e.denoted

pub open_ports : (q : Ports) (n : ℕ) (words : List (List ℕ)) (ls : List StatementValue) (done : List ModelValue) (m : ModelValue) (t : State) → EndsOpen done (with_ports q words m) ls t → EndsOpen done m (line_of (keyword_for q) n words ∷ ls) t
open_ports q n words ls done m t e =
    let l : StatementValue = line_of (keyword_for q) n words in
    let keep = ports_keep q words m in
    open_more done m (with_ports q words m) (l ∷ []) ls (l ∷ ls) [] t refl keep.0 keep.1
    (λ p. ports_grown p q m words ∙ ap (λ x. ports_of p m ++ x) (sym (append-nil (port_names p (keyword_for q) words))))
    (keep.2 ∙ sym (append-nil m.commands)) (λ lines commands are. ports_line l lines commands (is_port q) are) e

-- a command, with the lines that it takes
pub open_command : (done : List ModelValue) (m : ModelValue) (n : ℕ) (made : Body) (front later ss : List StatementValue) (t : State) → ss ≡ front ++ later → ((p : Ports) → names_in p front ≡ [])
    → ((lines : List StatementValue) (commands : List Command) → AreCommands lines commands → AreCommands (front ++ lines) (command_of n made ∷ commands)) → EndsOpen done (with_command m n made) later t → EndsOpen done m ss t
open_command done m n made front later ss t split quiet commanded e = grind (arith, open_more, command_of, ports_commanded, append-nil)

pub open_cover : (n : ℕ) (words : List (List ℕ)) (ls : List StatementValue) (done : List ModelValue) (m : ModelValue) (t : State) → words ≡ (cover_of words).inputs ++ (cover_of words).output ∷ []
    → EndsCover done m (record { line = n; cover = cover_of words }) ls t → EndsOpen done m (line_of Names n words ∷ ls) t
open_cover n words ls done m t named e =
    let l : StatementValue = line_of Names n words in
    let made : CoverValue = record (cover_of words) { value = e.value; rows = e.rows } in
    open_command done m n (body.Cover made) (l ∷ e.lines) e.later (l ∷ ls) t (ap (λ x. l ∷ x) e.split) (λ p. quiet_line p Names n words e.lines refl (names_in-rows p e.rows_are))
    (λ lines commands are. cover_lines l e.lines lines (e.lines ++ lines) made commands (record { is = refl; names = named; no_rows = e.none_more }) e.rows_are refl are) e.behind_them

-- a row of the last cover
pub cover_row : (n : ℕ) (words : List (List ℕ)) (ls : List StatementValue) (done : List ModelValue) (m : ModelValue) (c : CoverRead) (t : State) (row : Option RowRead) → row_of (length c.cover.inputs) words ≡ row
    → row_read_fault n (value_so_far c.cover) row ≡ None → EndsCover done m (record { line = c.line; cover = with_row c.cover row }) ls t → EndsCover done m c (line_of Plain n words ∷ ls) t
cover_row n words ls done m c t None is h e = absurd (none-some _ (sym h))
cover_row n words ls done m c t (Some row) is h e =
    let l : StatementValue = line_of Plain n words in
    let r : RowValue = record { cells = row.cells } in
    let same : e.value ≡ row.value = e.first (some_push c.cover.rows r) in
    record {
      lines = l ∷ e.lines;
      later = e.later;
      value = e.value;
      rows = r ∷ e.rows;
      split = ap (λ x. l ∷ x) e.split;
      rows_are = more l e.lines r e.rows (subst (λ v. IsRow (length c.cover.inputs) v l r) (sym same) (row_is (length c.cover.inputs) words row l refl refl is)) e.rows_are;
      first = λ some. same ∙ same_value n c.cover.value row.value (ap (λ v. mixed_fault n v row.value) (sym (value_there c.cover.value c.cover.rows some)) ∙ h);
      none_more = λ z. absurd (cc);
      behind_them = subst (λ rows. EndsOpen done (with_command m c.line (body.Cover (record c.cover { value = e.value; rows = rows }))) e.later t) (append_assoc c.cover.rows (r ∷ []) e.rows) e.behind_them;
    }

-- a line that is none ends the rows
pub cover_end : (ss : List StatementValue) (done : List ModelValue) (m : ModelValue) (c : CoverRead) (t : State) → EndsOpen done (with_command m c.line (body.Cover c.cover)) ss t → EndsCover done m c ss t
cover_end ss done m c t e = record {
  lines = [];
  later = ss;
  value = c.cover.value;
  rows = [];
  split = refl;
  rows_are = none;
  first = λ some. refl;
  none_more = λ z. refl;
  behind_them = subst (λ rows. EndsOpen done (with_command m c.line (body.Cover (record c.cover { rows = rows }))) ss t) (sym (append-nil c.cover.rows)) e;
}

pub open_end : (done : List ModelValue) (m : ModelValue) (t : State) → HasOnce m → ended t ≡ done ++ m ∷ [] → EndsOpen done m [] t
open_end done m t o e = record {
  lines = [];
  rest = [];
  whole = m;
  made = [];
  commands = [];
  split = refl;
  ended_is = e;
  denoted = none;
  name_is = refl;
  line_is = refl;
  ports_are = λ p. sym (append-nil (ports_of p m));
  once = o;
  commands_are = sym (append-nil m.commands);
  commanded = none;
}
