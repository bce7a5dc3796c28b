-- What the proofs of this crate cite of other crates, and its own definitions, passed on from one place.
pub use Rattle.std.proofs.Common.{◌≡◌, ℕ, zero, suc, ◌+◌, ◌-◌, ◌/◌, ◌<◌, ◌≤◌, Bool, false, ◌&&◌, List, ◌∷◌, length, take, get_or, Some, sym, ap, ◌∙◌, subst, inl, inr, arith, length-append, true, eqb, [], ◌++◌, Option, None, refl, append_assoc, append-nil, ◌⊎◌, ◌*◌, ◌%◌, not, min, max, drop}
pub use Rattle.std.proofs.Math.ListN.{get_or-append}
pub use Rattle.std.proofs.lemmas.Bool.{cases_lt, and_from, eq-eqb, both_ways, eqb-true, eqb-false, and_parts, cond-false}
pub use Rattle.std.proofs.lemmas.List.{ext_get_or, get_or-take, length-take, get_or_push}
pub use Rattle.std.proofs.lemmas.List.Quantifiers.{position-Some}
pub use Rattle.std.proofs.lemmas.Option.{slice_get_within, slice_get-get_or, same_Some, none-some}
pub use Rattle.std.specs.List.{slice_get, position}
pub use Rattle.list_laws.proofs.Choice.{choose_one, choose_both, choose}
pub use Rattle.list_laws.proofs.FirstPlace.{fails_everywhere, position_is, list_any-position_none}
pub use Rattle.list_laws.proofs.Places.{get_left, get_pushed, drop_past}
pub use Rattle.aig_core.specs.Aig.{Aig, IsNormal, AreNormal, first_and, node_count, IsNode, IsSource, IsLit}
pub use Rattle.aig_core.specs.And.{with_pairs, is_pair, Answer, and_in_order, found_or_new, complement, and_of}
pub use Rattle.aig_core.specs.Value.{in_phase, node_value, value_of, FitsGraph, HasOneFit, xor, IsProduct, KeepsValues}
pub use Rattle.aig_core.specs.declared.lit.Kind.{Kind}
pub use Rattle.aig_core.specs.declared.lit.Pair.{Pair}
