use Rattle.tl_io.proofs.Lemmas.{◌≡◌, ◌∙◌, ap, sym, Some, None, is_some, List, refl, position, get, MemFile, is_named, Store, created, is_some_there, get-files_none, created_there, created_none, first_created}
use Rattle.tl_io.proofs.mem_files.MemFiles.create.Goals as goal

pub returns-in-Some-clause-found : goal.returns-in-Some-clause-found
returns-in-Some-clause-found c =
    let e : position (is_named c.args.name.now) c.self.inside.files.items ≡ Some c.in-Some.file =
    ap (λ (fs : List MemFile). position (is_named c.args.name.now) fs) (sym c.deref.ensures.value) ∙ sym c.place_of.ensures.first ∙ c.in-Some.is in
    sym (is_some_there c.args.name.now c.self.inside.files.items c.in-Some.file e) ∙ ap (λ (s : Store). is_some (get s.files c.args.name.now)) c.self.view_is

pub returns-in-Some-clause-created : goal.returns-in-Some-clause-created
returns-in-Some-clause-created c =
    let e : position (is_named c.args.name.now) c.self.inside.files.items ≡ Some c.in-Some.file =
    ap (λ (fs : List MemFile). position (is_named c.args.name.now) fs) (sym c.deref.ensures.value) ∙ sym c.place_of.ensures.first ∙ c.in-Some.is in
    created_there c.self.inside.files.items c.self.inside.activity c.args.name.now c.in-Some.file c.index_mut-written.result.now _ e c.index_mut-written.ensures.value refl refl c.clear.ensures.items ∙ ap (λ (s : Store). created s c.args.name.now) c.self.view_is

pub returns-in-None-clause-found : goal.returns-in-None-clause-found
returns-in-None-clause-found c =
    let e : position (is_named c.args.name.now) c.self.inside.files.items ≡ None =
    ap (λ (fs : List MemFile). position (is_named c.args.name.now) fs) (sym c.deref.ensures.value) ∙ sym c.place_of.ensures.first ∙ c.in-None.is in
    sym (ap is_some (get-files_none c.args.name.now c.self.inside.files.items e)) ∙ ap (λ (s : Store). is_some (get s.files c.args.name.now)) c.self.view_is

pub returns-in-None-clause-created : goal.returns-in-None-clause-created
returns-in-None-clause-created c =
    let e : position (is_named c.args.name.now) c.self.inside.files.items ≡ None =
    ap (λ (fs : List MemFile). position (is_named c.args.name.now) fs) (sym c.deref.ensures.value) ∙ sym c.place_of.ensures.first ∙ c.in-None.is in
    created_none c.self.inside.files.items c.self.inside.activity c.args.name.now e ∙ ap (λ (s : Store). created s c.args.name.now) c.self.view_is

pub invariant_of-self : goal.invariant_of-self
invariant_of-self c =
    let e : position (is_named c.args.name.now) c.self.inside.files.items ≡ Some c.in-Some.file =
    ap (λ (fs : List MemFile). position (is_named c.args.name.now) fs) (sym c.deref.ensures.value) ∙ sym c.place_of.ensures.first ∙ c.in-Some.is in
    first_created c.self.inside.files.items c.args.name.now c.in-Some.file c.index_mut-written.result.now _ e c.index_mut-written.ensures.value refl
