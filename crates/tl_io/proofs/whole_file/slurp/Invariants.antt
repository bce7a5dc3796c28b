use Rattle.tl_io.proofs.Common.{◌≡◌, ◌≤◌, ◌-◌, ◌^◌, false, IsTrue, take, vec_len, NAME_ROOM}
use Rattle.tl_io.proofs.Reading.{IsSoFar}
use Rattle.tl_io.proofs.whole_file.slurp.Given as goal

abbrev pub invariant-loop-text : goal.invariant-loop-text
invariant-loop-text g l =
    let now = g.S.Shelf.seen l.shelf in
    let then = g.S.Shelf.seen l.fn.shelf in
    record {
      reading : IsTrue now.is_reading;
      name : now.name ≡ take NAME_ROOM l.name;
      before : now.before ≡ then.read_faults;
      later : then.read_faults ≤ now.read_faults;
      files : now.files ≡ then.files;
      write_faults : now.write_faults ≡ then.write_faults;
      not_writing : now.is_writing ≡ false;
      given : now.given ≡ vec_len l.text;
      within : vec_len l.text ≤ l.limit;
      so_far : IsSoFar now.files l.name l.text.items now.left;
    }

abbrev pub decreases-loop-text : goal.decreases-loop-text
decreases-loop-text g l = 2 ^ 64 - vec_len l.text
