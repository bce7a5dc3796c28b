-- The lemmas that answers cite, passed on from one place.
pub use Rattle.tl_io.proofs.Common.{◌≡◌, ◌≤◌, ◌+◌, ◌∙◌, ◌++◌, Some, ap, subst, sym, refl, rules, arith, length, vec_len, IsOk, vec_capacity, Store, appended, written_bytes, written_room, extended, files_but, written_at, None, List, position, get, MemFile, is_named, is_some, created, opened}
pub use Rattle.tl_io.proofs.StoreLemmas.{IsWriting, writing_there, appended_grown, appended_others, appended_in, first_appended, written_bytes_in, written_room_in, created_there, created_none, first_created, opened_there, opened_none}
pub use Rattle.tl_io.proofs.FirstNamed.{first_named, get-files_of, get-files_none, is_some_there}
