use Rattle.tl_io.proofs.Lemmas.{◌≡◌, ◌≤◌, ◌+◌, ◌∙◌, ◌++◌, Some, ap, subst, sym, refl, rules, arith, length, vec_len, IsOk, vec_capacity, Store, appended, written_bytes, written_room, extended, files_but, written_at, IsWriting, writing_there, appended_grown, appended_others, appended_in, first_appended, written_bytes_in, written_room_in}
use Rattle.tl_io.proofs.mem_files.MemFiles.append.Goals as goal

pub invariant_of-self : goal.invariant_of-self
invariant_of-self c =
    first_appended c.self.inside.files.items c.self.inside.activity c.in-Writing.file c.index_mut-written.result.now _ c.in-Writing.is c.self.invariant c.index_mut-written.ensures.value refl

pub returns-in-Writing-clause-after : goal.returns-in-Writing-clause-after
returns-in-Writing-clause-after c =
    let files = c.self.inside.files.items in
    let file = c.index_mut-written.result.now in
    let room : written_room c.args.self.now ≡ file.room =
    sym (ap written_room c.self.view_is) ∙ written_room_in files c.self.inside.activity c.in-Writing.file file c.in-Writing.is c.self.invariant c.index_mut-written.ensures.value in
    let bytes : written_bytes c.args.self.now ≡ file.bytes.items =
    sym (ap written_bytes c.self.view_is) ∙ written_bytes_in files c.self.inside.activity c.in-Writing.file file c.in-Writing.is c.self.invariant c.index_mut-written.ensures.value in
    let fits : vec_len file.bytes + length c.args.text.now ≤ vec_capacity file.bytes = omega (arith, file.bytes.ok.0, c.requires, room, ap length bytes, file.reserved) in
    let done : IsOk c.extend_from_slice.result = c.extend_from_slice.ensures.succeeds fits in
    let grown : c.extend_from_slice.new.self.items ≡ file.bytes.items ++ c.args.text.now = search rules in
    appended_in files c.self.inside.activity c.in-Writing.file c.args.text.now file _ c.in-Writing.is c.self.invariant c.index_mut-written.ensures.value refl refl grown
    ∙ ap (λ (s : Store). appended s c.args.text.now) c.self.view_is

pub returns-in-Writing-clause-grown : goal.returns-in-Writing-clause-grown
returns-in-Writing-clause-grown c =
    let there : IsWriting c.args.self.now = subst IsWriting c.self.view_is (writing_there c.self.inside.files.items c.self.inside.activity c.in-Writing.file c.index_mut-written.result.now c.in-Writing.is c.self.invariant) in
    let after = returns-in-Writing-clause-after c in
    subst (λ (s : Store). written_at (Some s.files) s.writing ≡ extended (written_at (Some c.args.self.now.files) c.args.self.now.writing) c.args.text.now) (sym after) (appended_grown c.args.self.now c.args.text.now there)

pub returns-in-Writing-clause-others : goal.returns-in-Writing-clause-others
returns-in-Writing-clause-others c =
    let there : IsWriting c.args.self.now = subst IsWriting c.self.view_is (writing_there c.self.inside.files.items c.self.inside.activity c.in-Writing.file c.index_mut-written.result.now c.in-Writing.is c.self.invariant) in
    let after = returns-in-Writing-clause-after c in
    subst (λ (s : Store). files_but (Some s.files) s.writing ≡ files_but (Some c.args.self.now.files) c.args.self.now.writing) (sym after) (appended_others c.args.self.now c.args.text.now there)
