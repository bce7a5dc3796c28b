-- What the proofs of this crate cite of other crates, and its own definitions, passed on from one place.
pub use Rattle.std.proofs.Common.{◌≡◌, ℕ, zero, suc, ◌≤◌, Bool, List, [], ◌∷◌, ◌++◌, length, Some, refl, sym, ap, ◌∙◌, subst, inl, inr, arith, true, false, cond, Option, None, ◌+◌, ◌<◌, eqb, get_or, not, ltb, drop, drop-cons, ◌⊎◌, map, take, replicate, eqb-true, eq-eqb, slice_set, reverse, rules}
pub use Rattle.std.proofs.lemmas.Bool.{ltb-false, cond-true, cond-false, lt-ltb, le-ltb, or_parts, cases_Bool, cases_eq, both_ways}
pub use Rattle.std.proofs.lemmas.Option.{none-some, slice_get_within, get_or_from_slice_get, slice_get_read, same_Some}
pub use Rattle.std.specs.List.{range_with_len}
pub use Rattle.std.specs.Prelude.{filter, slice_get}
pub use Rattle.list_laws.specs.Members.{In}
