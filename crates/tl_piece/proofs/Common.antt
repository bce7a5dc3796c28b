-- What the proofs of this crate cite of other crates, and its own definitions, passed on from one place.
pub use Rattle.std.proofs.Common.{◌≡◌, ◌⊎◌, inl, inr, ℕ, ◌≤◌, true, false, List, [], ◌++◌, Result, Ok, Err, is_err, refl, sym, ap, subst, ◌∙◌, arith, rules, zero, suc, ◌+◌, ◌<◌, ◌∷◌, length, get_or, take, map, replicate, append-nil, add-one, Option, append_assoc, length-append}
pub use Rattle.tl_io.specs.Sink.{SinkSeen, IsPut}
pub use Rattle.tl_piece.specs.Added.{IsNew, Grows, waits, cut, stays, IsAdded, IsFinished}
pub use Rattle.tl_piece.specs.declared.writer.Writer.{Writer}
pub use Rattle.std.proofs.lemmas.List.{take_more, map-append, take-append-le, take_all}
