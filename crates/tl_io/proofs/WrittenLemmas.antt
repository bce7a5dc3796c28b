-- What a shelf holds once a file of it is written: for callers who write through a `FileSink`.
use Rattle.tl_io.proofs.Common.{◌≡◌, ℕ, List, [], Option, None, Some, sym, ap, ◌∙◌, option_map, insert, remove, extended}
use Rattle.tl_io.specs.Shelf.{Files, ShelfSeen, apart, written, written_at, files_but, emptied, with_file}
use Rattle.tl_io.proofs.FilesLemmas.{get-inserted, remove-insert, insert-remove, insert-get}

-- files that hold a text under a name, and are else as some others, are these others with the text put there
put_back : (files : Option Files) (others : Files) (name text : List ℕ) → option_map (λ fs. remove fs name) files ≡ Some (remove others name) → written_at files (Some name) ≡ Some text
    → files ≡ Some (insert others name text)
put_back None others name text e g = cc
put_back (Some fs) others name text e g =
    let same : remove fs name ≡ remove others name = cc in
    ap Some (sym (insert-get fs name text g) ∙ ap (λ (m : Files). insert m name text) same ∙ insert-remove others name text)

-- once a file was begun, a text was put and nothing else was changed, the file holds the text, and the others are as before
pub files_written : (old mid new : ShelfSeen) (name text : List ℕ) → mid.writing ≡ option_map (λ _. name) old.files → mid.files ≡ emptied old.files name
    → written new ≡ extended (written mid) text → apart new ≡ apart mid → new.files ≡ with_file old.files name text
files_written old mid new name text writing begun grown others =
    told old.files mid.files mid.writing new.files new.writing writing begun grown (ap (λ (s : ShelfSeen). s.writing) others) (ap (λ (s : ShelfSeen). s.files) others)
  where
    told : (files between : Option Files) (at : Option (List ℕ)) (after : Option Files) (at_end : Option (List ℕ)) → at ≡ option_map (λ _. name) files → between ≡ emptied files name
        → written_at after at_end ≡ extended (written_at between at) text → at_end ≡ at → files_but after at_end ≡ files_but between at → after ≡ with_file files name text
    told None between at after at_end w b g same e =
        let none : at_end ≡ None = same ∙ w in
        sym (ap (files_but after) none) ∙ e ∙ ap (files_but between) w ∙ b
    told (Some files) between at after at_end w b g same e =
        let named : at_end ≡ Some name = same ∙ w in
        put_back after files name text
        (sym (ap (files_but after) named) ∙ e ∙ (ap (files_but between) w ∙ (ap (λ (fs : Option Files). files_but fs (Some name)) b ∙ ap Some (remove-insert files name []))))
        (sym (ap (written_at after) named) ∙ g
        ∙ ap (λ (o : Option (List ℕ)). extended o text) (ap (written_at between) w ∙ (ap (λ (fs : Option Files). written_at fs (Some name)) b ∙ get-inserted files name [])))
