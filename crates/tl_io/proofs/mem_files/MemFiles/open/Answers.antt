use Rattle.tl_io.proofs.Lemmas.{◌≡◌, ◌∙◌, ap, sym, Some, None, is_some, List, position, get, MemFile, is_named, Store, opened, is_some_there, get-files_none, opened_there, opened_none}
use Rattle.tl_io.proofs.mem_files.MemFiles.open.Goals as goal

pub returns-in-Some-clause-found : goal.returns-in-Some-clause-found
returns-in-Some-clause-found c =
    let e : position (is_named c.args.name.now) c.self.inside.files.items ≡ Some c.in-Some.file =
    ap (λ (fs : List MemFile). position (is_named c.args.name.now) fs) (sym c.deref.ensures.value) ∙ sym c.place_of.ensures.first ∙ c.in-Some.is in
    sym (is_some_there c.args.name.now c.self.inside.files.items c.in-Some.file e) ∙ ap (λ (s : Store). is_some (get s.files c.args.name.now)) c.self.view_is

pub returns-in-Some-clause-opened : goal.returns-in-Some-clause-opened
returns-in-Some-clause-opened c =
    let e : position (is_named c.args.name.now) c.self.inside.files.items ≡ Some c.in-Some.file =
    ap (λ (fs : List MemFile). position (is_named c.args.name.now) fs) (sym c.deref.ensures.value) ∙ sym c.place_of.ensures.first ∙ c.in-Some.is in
    opened_there c.self.inside.files.items c.self.inside.activity c.args.name.now c.in-Some.file e ∙ ap (λ (s : Store). opened s c.args.name.now) c.self.view_is

pub returns-in-None-clause-found : goal.returns-in-None-clause-found
returns-in-None-clause-found c =
    let e : position (is_named c.args.name.now) c.self.inside.files.items ≡ None =
    ap (λ (fs : List MemFile). position (is_named c.args.name.now) fs) (sym c.deref.ensures.value) ∙ sym c.place_of.ensures.first ∙ c.in-None.is in
    sym (ap is_some (get-files_none c.args.name.now c.self.inside.files.items e)) ∙ ap (λ (s : Store). is_some (get s.files c.args.name.now)) c.self.view_is

pub returns-in-None-clause-opened : goal.returns-in-None-clause-opened
returns-in-None-clause-opened c =
    let e : position (is_named c.args.name.now) c.self.inside.files.items ≡ None =
    ap (λ (fs : List MemFile). position (is_named c.args.name.now) fs) (sym c.deref.ensures.value) ∙ sym c.place_of.ensures.first ∙ c.in-None.is in
    opened_none c.self.inside.files.items c.self.inside.activity c.args.name.now e ∙ ap (λ (s : Store). opened s c.args.name.now) c.self.view_is
