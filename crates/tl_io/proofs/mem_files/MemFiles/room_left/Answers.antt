use Rattle.tl_io.proofs.Lemmas.{◌≡◌, ◌∙◌, ap, sym, arith, length, written_bytes, written_room, written_bytes_in, written_room_in}
use Rattle.tl_io.proofs.mem_files.MemFiles.room_left.Goals as goal

pub returns-in-Writing : goal.returns-in-Writing
returns-in-Writing c =
    let files = c.self.inside.files.items in
    let file = c.index-written.result.now in
    let room : written_room c.args.self.now ≡ file.room =
    sym (ap written_room c.self.view_is) ∙ written_room_in files c.self.inside.activity c.in-Writing.file file c.in-Writing.is c.self.invariant c.index-written.ensures in
    let bytes : written_bytes c.args.self.now ≡ file.bytes.items =
    sym (ap written_bytes c.self.view_is) ∙ written_bytes_in files c.self.inside.activity c.in-Writing.file file c.in-Writing.is c.self.invariant c.index-written.ensures in
    omega (arith, file.bytes.ok.0, room, ap length bytes)
