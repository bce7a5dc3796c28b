-- What the proofs of this crate cite of other crates, and its own definitions, passed on from one place.
pub use Rattle.std.proofs.Common.{◌≡◌, ℕ, ◌+◌, ◌-◌, ◌<◌, ◌≤◌, true, ◌&&◌, leb, ltb, length, sym, ◌∙◌, inl, inr, arith, Some, ap, subst, List, [], ◌∷◌, drop}
pub use Rattle.std.proofs.lemmas.Option.{same_Some, slice_get_within, get_or_from_slice_get}
pub use Rattle.std.proofs.lemmas.Bool.{and_from, or_left, or_right, le-leb, lt-ltb, cases_lt}
pub use Rattle.aig_core.specs.declared.lit.Kind.TheVariants.{Regular, Parameter}
pub use Rattle.aig_core.specs.Aig.{Aig, IsSource}
pub use Rattle.bit_fun.specs.Parameters.{param_count}
