-- What the clause on the replay says of two outputs, and two that do not meet it: examples, which nothing cites.
use Rattle.tlut_cli.proofs.Common.{◌≡◌, ℕ, List, [], ◌∷◌, ◌++◌, Option, None, Some, refl, sym, ap, ◌∙◌, arith, get_or, append_cancel_left, concat, extended, EventValue, Outside, PutTheSameLines}

-- what an output grew by, where both ends are told
grown_by : (start header text : List ℕ) (lines : List (List ℕ)) (old new : Option (List ℕ)) → old ≡ Some start → new ≡ Some (start ++ (header ++ text)) → new ≡ extended old (concat (header ∷ lines)) → text ≡ concat lines
grown_by start header text lines old new o n put =
    let told : Some (start ++ (header ++ text)) ≡ Some (start ++ (header ++ concat lines)) = sym n ∙ put ∙ ap (λ (b : Option (List ℕ)). extended b (concat (header ∷ lines))) o in
    let whole : start ++ (header ++ text) ≡ start ++ (header ++ concat lines) = cc in
    append_cancel_left header text (concat lines) (append_cancel_left start (header ++ text) (header ++ concat lines) whole)

-- The texts behind the two headers are the same. So jobs that put other texts there do not meet the clause.
pub same_behind_headers : (header other_header start other_start text other_text : List ℕ) (events others : List EventValue) (old new other later : Outside)
    → old.bytes ≡ Some start → new.bytes ≡ Some (start ++ (header ++ text)) → other.bytes ≡ Some other_start → later.bytes ≡ Some (other_start ++ (other_header ++ other_text))
    → PutTheSameLines header other_header events others old new other later → text ≡ other_text
same_behind_headers header other_header start other_start text other_text events others old new other later o n p l same =
    grown_by start header text same.lines old.bytes new.bytes o n same.put ∙ sym (grown_by other_start other_header other_text same.lines other.bytes later.bytes p l same.other_put)

-- nothing but the bytes of an output
abbrev bytes_alone : List ℕ → Outside
bytes_alone bytes = record { files = None; file_faults = 0; bytes = Some bytes; put_faults = 0; ports = [] }

-- Two outputs of a header and one byte each, which differ: whatever the events, they do not meet the clause.
pub other_byte_refused : (events others : List EventValue) → PutTheSameLines (1 ∷ []) (2 ∷ []) events others (bytes_alone []) (bytes_alone (1 ∷ 3 ∷ [])) (bytes_alone []) (bytes_alone (2 ∷ 4 ∷ [])) → ⊥
other_byte_refused events others same =
    let alike : 3 ∷ [] ≡ 4 ∷ [] =
    same_behind_headers (1 ∷ []) (2 ∷ []) [] [] (3 ∷ []) (4 ∷ []) events others _ _ _ _ refl refl refl refl same in
    omega (arith, ap (λ (l : List ℕ). get_or l 0 0) alike)
