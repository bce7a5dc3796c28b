-- What the proofs of this crate cite of other crates, and its own definitions, passed on from one place.
pub use Rattle.std.proofs.Common.{◌≡◌, List, [], ◌∷◌, length, Bool, refl, ◌∙◌, ◌++◌, Option, None, Some, ap, append_assoc, append-nil, ℕ, true, false, cond, sym, zero, suc, ◌<◌, ◌≤◌, get_or, is_some, map, arith, string_bytes, ◌+◌, take, Result, Ok, Err, IsErrAnd, subst, length-append, slice_get, min, ◌-◌, rules, drop, take-append-drop, drop_of_length-le, vec_len, IsOk, ◌^◌, IsTrue}
pub use Rattle.std.proofs.Math.ListN.{set}
pub use Rattle.std.proofs.lemmas.List.{length-set, take-append-le, get_or-set_same, take_min, length-take, take_rest}
pub use Rattle.std.specs.Cmp.{tied_itself}
pub use Rattle.std.specs.Cmp.Lexicographic.{slice_cmp, nat_list_cmp_total}
pub use Rattle.std.specs.FinMap.{get, insert, remove, get-insert, get-remove, same_map, IsAntisymmetric, slice_cmp-IsAntisymmetric, nat_cmp-IsAntisymmetric, find, from_entries, get-from_entries}
pub use Rattle.std.specs.Io.KnownBytes.{Appends}
pub use Rattle.std.specs.Option.{option_map, option_map_or, option_and_then}
pub use Rattle.std.specs.Ordering.{nat_cmp, is_eq, eq_by_cmp}
pub use Rattle.std.specs.Prelude.{position, nat_lt, vec_capacity}
pub use Rattle.tl_io.specs.Content.{extended, Puts}
pub use Rattle.tl_io.specs.MemFiles.{is_named, files_of, rooms_of, store_of, name_at, writing_of, IsFirstWritten}
pub use Rattle.tl_io.specs.Shelf.{Files, files_but, written_at}
pub use Rattle.tl_io.specs.Store.{Store, Rooms, opened, created, appended, written_bytes, written_room}
pub use Rattle.tl_io.specs.declared.mem_file.MemFile.{MemFile}
pub use Rattle.tl_io.specs.declared.told_name.TheConstants.{NAME_ROOM}
