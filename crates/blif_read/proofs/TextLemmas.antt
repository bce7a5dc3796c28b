-- A text has a library or a refusal, never both, and at most one library.
use Rattle.blif_read.proofs.Common.{◌≡◌, ℕ, List, Some, None, Result, Ok, Err, refl, sym, ap, ◌∙◌, same_Some, none-some, subst, IfOk, MatchResult, BlifErr, LibraryValue, Denotes, OrMemory, refusal_of, read_fault, fault_of, text_read, arith, ◌+◌, ◌<◌, Bool, true, false, [], ◌∷◌, ◌++◌, length, drop, get_or, Option, is_some, append_assoc, option_map, drop_more, BadConnection, Keyword, Connection, ModelValue, StatementValue, has, connection_of, repeats_formal, with_formal, connections_fault, fault_by, line_fault, ModelRead, State, context, model_after, next, put_pair, pairs_of, inside_fault, place_some}
use Rattle.std.specs.Result.{result_ok}
use Rattle.blif_read.proofs.FaultLemmas.{read_no_fault, read_fault_is}
use Rattle.blif_read.proofs.CompleteLemmas.{denotes_read}
use Rattle.blif_read.proofs.DenotedLemmas.{read_denotes}
use Rattle.blif_read.specs.ReadFault.{HasOneReading}
use Rattle.tl_text.specs.NameIndex.{place_of}
use Rattle.blif_read.specs.declared.blif_err.BlifErr.TheVariants as blif_err
use Rattle.blif_read.specs.declared.keyword.Keyword.TheVariants as k

denotes_once : (bytes : List ℕ) (a b : LibraryValue) → Denotes bytes a → Denotes bytes b → a ≡ b
denotes_once bytes a b d e =
    same_Some a b (ap (λ (r : Result LibraryValue BlifErr). result_ok r) (sym (denotes_read bytes a d) ∙ denotes_read bytes b e))

some_library : (bytes : List ℕ) (r : Result LibraryValue BlifErr) → text_read bytes ≡ r → read_fault bytes ≡ None → (library : LibraryValue) × Denotes bytes library
some_library bytes (Ok library) is none = (library, read_denotes bytes library is)
some_library bytes (Err error) is none = absurd (none-some error (sym none ∙ read_fault_is bytes error is))

pub one_reading : (bytes : List ℕ) → HasOneReading bytes
one_reading bytes = record { once = denotes_once bytes; not_both = λ library d. read_no_fault bytes library (denotes_read bytes library d); some = some_library bytes (text_read bytes) refl }

-- what the one pass refuses is the text's refusal
fault_is_read : (bytes : List ℕ) → fault_of (text_read bytes) ≡ read_fault bytes
fault_is_read bytes = grind (arith, read_no_fault, read_fault_is)

-- where nothing is refused, an error is want of memory
only_memory : (e : BlifErr) → OrMemory refusal_of (λ f. None ≡ Some f) e → e ≡ blif_err.Memory
only_memory blif_err.Memory h = refl
only_memory e h = absurd (none-some e h)

-- what the answer of the one pass says
abbrev Said : List ℕ → Result LibraryValue BlifErr → Type 0
Said bytes r = MatchResult r (λ library. text_read bytes ≡ Ok library) (OrMemory refusal_of (λ e. fault_of (text_read bytes) ≡ Some e))

pub all_read : {P : LibraryValue → Type 0} (bytes : List ℕ) (r : Result LibraryValue BlifErr) → Said bytes r → ((library : LibraryValue) → Denotes bytes library → P library) → IfOk r P
all_read bytes (Ok library) said all = all library (read_denotes bytes library said)
all_read bytes (Err e) said all = tt

pub denoted_read : (bytes : List ℕ) (r : Result LibraryValue BlifErr) → Said bytes r → (library : LibraryValue) → Denotes bytes library → MatchResult r (λ answer. answer ≡ library) (λ e. e ≡ blif_err.Memory)
denoted_read bytes (Ok answer) said library d = denotes_once bytes answer library (read_denotes bytes answer said) d
denoted_read bytes (Err e) said library d = only_memory e (subst (λ r. OrMemory refusal_of (λ f. fault_of r ≡ Some f) e) (denotes_read bytes library d) said)

pub refused_read : (bytes : List ℕ) (r : Result LibraryValue BlifErr) → Said bytes r → MatchResult r (λ _. read_fault bytes ≡ None) (OrMemory refusal_of (λ e. read_fault bytes ≡ Some e))
refused_read bytes (Ok library) said = read_no_fault bytes library said
refused_read bytes (Err e) said = subst (λ o. OrMemory refusal_of (λ f. o ≡ Some f) e) (fault_is_read bytes) said

-- The steps of the reader's loops, and what its parts say of the whole.
-- a name is among others exactly where an index answers a place
pub has_from : (names index : List (List ℕ)) (name bytes : List ℕ) (o : Option ℕ) (b : Bool) → index ≡ names → bytes ≡ name → o ≡ place_of index bytes → b ≡ is_some o → has names name ≡ b
has_from names index name bytes o b same alike is found = grind (arith, is_some, place_some)

refused : (number : ℕ) (formals : List (List ℕ)) (word : List ℕ) (words : List (List ℕ)) → repeats_formal formals (connection_of word) ≡ true → connections_fault number formals (word ∷ words) ≡ Some (BadConnection number)
refused number formals word words again = rw again refl

accepted : (number : ℕ) (formals : List (List ℕ)) (word : List ℕ) (words : List (List ℕ)) → repeats_formal formals (connection_of word) ≡ false → connections_fault number formals (word ∷ words) ≡ connections_fault number (with_formal formals (connection_of word)) words
accepted number formals word words new = rw new refl

put_more : (pairs : List Connection) (o : Option Connection) (rest : List Connection) → pairs ++ put_pair o rest ≡ (pairs ++ put_pair o []) ++ rest
put_more pairs None rest = sym (append_assoc pairs [] rest)
put_more pairs (Some pair) rest = sym (append_assoc pairs (pair ∷ []) rest)

-- the word at a place of the words, and those behind it
drop_at_item : (words : List (List ℕ)) (i : ℕ) (word bytes : List ℕ) → i < length words → word ≡ get_or words i word → bytes ≡ word → drop i words ≡ bytes ∷ drop (i + 1) words
drop_at_item words i word bytes h is alike = drop_more words i word h ∙ ap (λ (w : List ℕ). w ∷ drop (i + 1) words) (sym is ∙ sym alike)

pub word_refused : (number : ℕ) (words : List (List ℕ)) (i : ℕ) (word bytes : List ℕ) (formals : List (List ℕ)) (e : BlifErr)
    → i < length words → word ≡ get_or words i word → bytes ≡ word → connections_fault number formals (drop i words) ≡ connections_fault number [] words
    → OrMemory refusal_of (λ e. (repeats_formal formals (connection_of bytes) ≡ true) × (e ≡ BadConnection number)) e → OrMemory refusal_of (λ e. connections_fault number [] words ≡ Some e) e
word_refused number words i word bytes formals e h is alike so_far said = grind (arith, drop_at_item, refused)

pub word_read : (number : ℕ) (words : List (List ℕ)) (i : ℕ) (word bytes : List ℕ) (formals next : List (List ℕ)) (pairs made : List Connection)
    → i < length words → word ≡ get_or words i word → bytes ≡ word → repeats_formal formals (connection_of bytes) ≡ false
    → next ≡ with_formal formals (connection_of bytes) → made ≡ pairs ++ put_pair (connection_of bytes) []
    → connections_fault number formals (drop i words) ≡ connections_fault number [] words → pairs ++ pairs_of (drop i words) ≡ pairs_of words
    → (connections_fault number next (drop (i + 1) words) ≡ connections_fault number [] words) × (made ++ pairs_of (drop (i + 1) words) ≡ pairs_of words)
word_read number words i word bytes formals next pairs made h is alike new added pushed so_far same = grind (arith, drop_at_item, accepted, put_more)

-- a line that begins and ends no model, as the open model reads it
fault_inside : (keyword : Keyword) (names : List (List ℕ)) (done : List ModelValue) (current : Option ModelRead) (number : ℕ) (words : List (List ℕ)) → (keyword ≡ k.Model → ⊥) → (keyword ≡ k.End → ⊥) → (keyword ≡ k.Unknown → ⊥)
    → fault_by keyword (context (record { names = names; done = done; current = current })) number words ≡ inside_fault keyword current number words
fault_inside k.Model names done current number words m e u = absurd (m refl)
fault_inside k.End names done current number words m e u = absurd (e refl)
fault_inside k.Unknown names done current number words m e u = absurd (u refl)
fault_inside keyword names done None number words m e u = refl
fault_inside keyword names done (Some r) number words m e u = refl

abbrev after_inside : State → Keyword → ℕ → List (List ℕ) → State
after_inside s keyword number words = record { names = s.names; done = s.done; current = option_map (model_after keyword number words) s.current }

pub step_inside : (r : Result (Unit {0}) BlifErr) (s new : State) (line : StatementValue) → (line.keyword ≡ k.Model → ⊥) → (line.keyword ≡ k.End → ⊥) → (line.keyword ≡ k.Unknown → ⊥)
    → MatchResult r (λ _. (inside_fault line.keyword s.current line.number line.arguments ≡ None) × (new ≡ after_inside s line.keyword line.number line.arguments)) (OrMemory refusal_of (λ e. inside_fault line.keyword s.current line.number line.arguments ≡ Some e))
    → MatchResult r (λ _. (line_fault (context s) line ≡ None) × (new ≡ next s line)) (OrMemory refusal_of (λ e. line_fault (context s) line ≡ Some e))
step_inside (Ok x) s new line m e u h = grind arith
step_inside (Err x) s new line m e u h = subst (λ o. OrMemory refusal_of (λ f. o ≡ Some f) x) (sym (fault_inside line.keyword s.names s.done s.current line.number line.arguments m e u)) h
