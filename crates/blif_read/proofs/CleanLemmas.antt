-- Each name in a library that a text denotes is clean.
use Rattle.blif_read.proofs.Common.{◌≡◌, ℕ, ◌-◌, eqb, List, [], ◌∷◌, length, map, get_or, codes, Some, None, refl, sym, ap, ◌∙◌, subst, inl, inr, arith, none-some, same_Some, In, In-append, In-left, In-right, from_map, LineValue, token_bytes, words_line, Keyword, Cover, Latch, Subckt, Command, Connection, CoverValue, SubcktValue, ModelValue, LibraryValue, Ports, input_ports, output_ports, clock_ports, StatementValue, arguments_of, keyword_of, statement_at, statement_of, statements, IsLatch, plain, with_init, with_control, whole, Controls, nil, net, connection_token, IsConnection, IsSubckt, port_names, names_in, IsCoverLine, AreCommands, IsModel, AreModels, Denotes}
use Rattle.tl_text.specs.declared.token.Token.{Token}
use Rattle.tl_text.specs.Clean.{IsClean, AreCleanIn}
use Rattle.tl_text.proofs.PlaceLemmas.{lines_clean}
use Rattle.tl_text.proofs.WrittenLineLemmas.{last_later}
use Rattle.blif_read.specs.declared.keyword.Keyword.TheVariants as keyword
use Rattle.netlist.specs.declared.latch.Latch.{Latch as LatchValue}
use Rattle.blif_read.specs.Denotes as denotes
use Rattle.netlist.specs.HasCleanNames.{AreClean, IsCleanPair, IsCleanBody, IsCleanModel, HasCleanNames}

abbrev AllClean : List StatementValue → Type 0
AllClean ss = (s : StatementValue) → In ss s → AreClean s.arguments

word_of : (k : Keyword) (word : List ℕ) (rest : List (List ℕ)) (name : List ℕ) → In (arguments_of k word rest) name → In (word ∷ rest) name
word_of keyword.Plain word rest name i = i
word_of k word rest name i = inr i

arguments_in : (number : ℕ) (words : List (List ℕ)) (name : List ℕ) → In (statement_at number words).arguments name → In words name
arguments_in number [] name i = absurd i
arguments_in number (word ∷ rest) name i = word_of (keyword_of word) word rest name i

statement_clean : (text : List ℕ) (line : LineValue) → ((token : Token) → In line.tokens token → IsClean (token_bytes text token)) → AreClean (statement_of (words_line text line)).arguments
statement_clean text line clean name i = grind (arith, from_map, arguments_in)

statements_clean : (text : List ℕ) (lines : List LineValue) → AreCleanIn text lines → AllClean (statements text lines)
statements_clean text lines clean s i = grind (arith, from_map, statement_clean)

port_in : (p : Ports) (k : Keyword) (names : List (List ℕ)) (name : List ℕ) → In (port_names p k names) name → In names name
port_in input_ports keyword.Inputs names name i = i
port_in output_ports keyword.Outputs names name i = i
port_in clock_ports keyword.Clock names name i = i
port_in p k names name i = absurd i

ports_clean : (p : Ports) (ss : List StatementValue) → AllClean ss → AreClean (names_in p ss)
ports_clean p [] clean name i = absurd i
ports_clean p (s ∷ ss) clean name i = elim (In-append (port_names p s.keyword s.arguments) (names_in p ss) name i) [
  | inl a ↦ clean s (inl refl) name (port_in p s.keyword s.arguments name a)
  | inr b ↦ ports_clean p ss (λ t j. clean t (inr j)) name b
]

cover_clean : (s : StatementValue) (c : CoverValue) → IsCoverLine s c → AreClean s.arguments → IsCleanBody (Cover c)
cover_clean s c is clean =
    (λ name i. (subst AreClean is.names clean) name (In-left c.inputs (c.output ∷ []) name i), (subst AreClean is.names clean) c.output (In-right c.inputs (c.output ∷ []) c.output (inl refl)))

none_clean : (o : List ℕ) (l : LatchValue) → l.control ≡ None → l.control ≡ Some o → IsClean o
none_clean o l none some = absurd (none-some o (sym none ∙ some))

control_clean : (token : List ℕ) (l : LatchValue) → Controls token l.control → IsClean token → (control : List ℕ) → l.control ≡ Some control → IsClean control
control_clean token l (nil e none) clean control some = none_clean control l none some
control_clean token l (net other is) clean control some = subst IsClean (same_Some token control (sym is ∙ some)) clean

latch_clean : (words : List (List ℕ)) (l : LatchValue) → IsLatch words l → AreClean words → IsCleanBody (Latch l)
latch_clean words l (plain w c i) clean =
    ((subst AreClean w clean) l.input (inl refl), (subst AreClean w clean) l.output (inr (inl refl)), λ o some. none_clean o l c some)
latch_clean words l (with_init init w c i) clean =
    ((subst AreClean w clean) l.input (inl refl), (subst AreClean w clean) l.output (inr (inl refl)), λ o some. none_clean o l c some)
latch_clean words l (with_control control w c i) clean =
    let all : AreClean (l.input ∷ l.output ∷ codes "re" ∷ control ∷ []) = subst AreClean w clean in
    (all l.input (inl refl), all l.output (inr (inl refl)), control_clean control l c (all control (inr (inr (inr (inl refl))))))
latch_clean words l (whole control init w c i) clean =
    let all : AreClean (l.input ∷ l.output ∷ codes "re" ∷ control ∷ init ∷ []) = subst AreClean w clean in
    (all l.input (inl refl), all l.output (inr (inl refl)), control_clean control l c (all control (inr (inr (inr (inl refl))))))

-- the parts of a connection
pair_clean : (pair : Connection) → IsConnection pair → IsClean (connection_token pair) → IsCleanPair pair
pair_clean pair is clean =
    let front : (b : ℕ) → In pair.formal b → In (connection_token pair) b = λ b i. In-left pair.formal (61 ∷ pair.actual) b i in
    let back : (b : ℕ) → In pair.actual b → In (connection_token pair) b = λ b i. In-right pair.formal (61 ∷ pair.actual) b (inr i) in
    let last : get_or (connection_token pair) (length (connection_token pair) - 1) 0 ≡ get_or pair.actual (length pair.actual - 1) 0
    = last_later pair.formal (61 ∷ pair.actual) (omega arith) ∙ last_later (61 ∷ []) pair.actual is.actual in
    record {
      formal = record { some = is.formal; no_blank = λ b i. clean.bytes.no_blank b (front b i); no_bad = λ b i. clean.bytes.no_bad b (front b i); no_comment = λ b i. clean.bytes.no_comment b (front b i) };
      actual = record {
        bytes = record { some = is.actual; no_blank = λ b i. clean.bytes.no_blank b (back b i); no_bad = λ b i. clean.bytes.no_bad b (back b i); no_comment = λ b i. clean.bytes.no_comment b (back b i) };
        no_slash = ap (λ b. eqb b 92) (sym last) ∙ clean.no_slash;
      };
    }

pairs_clean : (pairs : List Connection) → ((pair : Connection) → In pairs pair → IsConnection pair) → AreClean (map connection_token pairs) → (pair : Connection) → In pairs pair → IsCleanPair pair
pairs_clean [] each clean pair i = absurd i
pairs_clean (p ∷ ps) each clean pair (inl e) = subst IsCleanPair (sym e) (pair_clean p (each p (inl refl)) (clean (connection_token p) (inl refl)))
pairs_clean (p ∷ ps) each clean pair (inr i) = pairs_clean ps (λ q j. each q (inr j)) (λ name j. clean name (inr j)) pair i

subckt_clean : (words : List (List ℕ)) (s : SubcktValue) → IsSubckt words s → AreClean words → IsCleanBody (Subckt s)
subckt_clean words s is clean =
    let all : AreClean (s.model ∷ map connection_token s.pairs) = subst AreClean is.words_are clean in
    (all s.model (inl refl), pairs_clean s.pairs is.each (λ name j. all name (inr j)))

later_clean : (s : StatementValue) (ss : List StatementValue) → AllClean (s ∷ ss) → AllClean ss
later_clean s ss clean t i = clean t (inr i)

commands_clean : {ss : List StatementValue} {commands : List Command} → AreCommands ss commands → AllClean ss → (command : Command) → In commands command → IsCleanBody command.body
commands_clean (denotes.ports s ss commands k are) clean command i = commands_clean are (later_clean s ss clean) command i
commands_clean (denotes.cover s rows rest ss c commands is rows_are split are) clean command (inl e) =
    subst (λ (x : Command). IsCleanBody x.body) (sym e) (cover_clean s c is (clean s (inl refl)))
commands_clean (denotes.cover s rows rest ss c commands is rows_are split are) clean command (inr i) = grind (arith, commands_clean are (λ t j. clean t (inr (subst (λ xs. In xs t) (sym split) (In-right rows rest t j)))) command i)
commands_clean (denotes.latch s ss l commands k is are) clean command (inl e) = subst (λ (x : Command). IsCleanBody x.body) (sym e) (latch_clean s.arguments l is (clean s (inl refl)))
commands_clean (denotes.latch s ss l commands k is are) clean command (inr i) = commands_clean are (later_clean s ss clean) command i
commands_clean (denotes.subckt s ss l commands k is are) clean command (inl e) = subst (λ (x : Command). IsCleanBody x.body) (sym e) (subckt_clean s.arguments l is (clean s (inl refl)))
commands_clean (denotes.subckt s ss l commands k is are) clean command (inr i) = commands_clean are (later_clean s ss clean) command i
commands_clean o clean command i = absurd i

model_clean : (header : StatementValue) (body : List StatementValue) (m : ModelValue) → IsModel header body m → AreClean header.arguments → AllClean body → IsCleanModel m
model_clean header body m is named clean = record {
  name = named m.name (subst (λ names. In names m.name) (sym is.name) (inl refl));
  ports = λ p name i. ports_clean p body clean name (subst (λ names. In names name) (is.ports p) i);
  commands = commands_clean is.commands clean;
}

models_clean : {ss : List StatementValue} {models : List ModelValue} → AreModels ss models → AllClean ss → (m : ModelValue) → In models m → IsCleanModel m
models_clean denotes.none clean m i = absurd i
models_clean (denotes.model s body rest ss first models is split are) clean m (inl e) =
    subst IsCleanModel (sym e) (model_clean s body first is (clean s (inl refl)) (λ t j. clean t (inr (subst (λ xs. In xs t) (sym split) (In-left body rest t j)))))
models_clean (denotes.model s body rest ss first models is split are) clean m (inr i) = grind (arith, models_clean are (λ t j. clean t (inr (subst (λ xs. In xs t) (sym split) (In-right body rest t j)))) m i)

pub denotes_clean : (text : List ℕ) (library : LibraryValue) → Denotes text library → HasCleanNames library
denotes_clean text library d = record { each = models_clean d.models_are.models (statements_clean text d.lines (lines_clean text d.lines d.lines_are)) }
