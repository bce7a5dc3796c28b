use Rattle.tl_io.proofs.Lemmas.{◌≡◌, ◌∙◌, ap, sym, Some, None, List, position, get, MemFile, is_named, Store, first_named, get-files_of, get-files_none}
use Rattle.tl_io.proofs.mem_files.MemFiles.bytes.Goals as goal

pub returns-in-Some : goal.returns-in-Some
returns-in-Some c =
    let files = c.self.inside.files.items in
    let e : position (is_named c.args.name.now) files ≡ Some c.in-Some.i =
    ap (λ (fs : List MemFile). position (is_named c.args.name.now) fs) (sym c.deref.ensures.value) ∙ sym c.place_of.ensures.first ∙ c.in-Some.is in
    ap Some (c.as_slice.ensures.value ∙ ap (λ (f : MemFile). f.bytes.items) c.index.ensures)
    ∙ sym (get-files_of c.args.name.now files c.in-Some.i c.index.result.now (first_named c.args.name.now files c.in-Some.i c.index.result.now e))
    ∙ ap (λ (s : Store). get s.files c.args.name.now) c.self.view_is

pub returns-in-None : goal.returns-in-None
returns-in-None c =
    let files = c.self.inside.files.items in
    let e : position (is_named c.args.name.now) files ≡ None =
    ap (λ (fs : List MemFile). position (is_named c.args.name.now) fs) (sym c.deref.ensures.value) ∙ sym c.place_of.ensures.first ∙ c.in-None.is in
    sym (get-files_none c.args.name.now files e) ∙ ap (λ (s : Store). get s.files c.args.name.now) c.self.view_is
