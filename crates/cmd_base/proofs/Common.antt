-- What the proofs of this crate cite of other crates, and its own definitions, passed on from one place.
pub use Rattle.std.proofs.Common.{◌≡◌, ℕ, ◌<◌, ◌≤◌, false, List, [], ◌∷◌, ◌++◌, length, get_or, take, Option, None, Some, inl, inr, sym, ap, subst, subst₂, ◌∙◌, arith, length-append, ◌+◌, drop, map, refl, append_assoc, append-nil, zero, suc, add-one, Bor, Result, Ok, Err, codes}
pub use Rattle.std.proofs.lemmas.List.{length-take-le, take_all, length-map, get_or-map, take-map}
pub use Rattle.std.specs.List.{concat}
pub use Rattle.tl_fault.specs.Refusals.{spaced, details_words}
pub use Rattle.tl_io.proofs.PutLemmas.{put_none, put_twice, put_stopped, put_as}
pub use Rattle.tl_io.specs.Causes.{Rose}
pub use Rattle.tl_io.specs.Shelf.{Files, with_file, ShelfSeen}
pub use Rattle.tl_io.specs.Sink.{SinkSeen, IsPut}
pub use Rattle.tl_io.specs.declared.Failed.{Failed}
pub use Rattle.cmd_base.specs.FaultLine.{Reports, head_line}
pub use Rattle.cmd_base.specs.Walk.{Outside, outside, KeepsFiles}
