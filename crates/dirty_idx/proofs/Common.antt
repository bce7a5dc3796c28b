-- What the proofs of this crate cite of other crates, and its own definitions, passed on from one place.
pub use Rattle.std.proofs.Common.{◌≡◌, ℕ, zero, suc, ◌+◌, ◌<◌, ◌≤◌, cond, List, [], ◌∷◌, ◌++◌, length, set, get_or, replicate, refl, sym, ap, ◌∙◌, subst, inl, inr, arith, eq-eqb, ◌⊎◌, ◌-◌, take, drop, slice_range, drop-cons, ◌*◌, ◌/◌, ◌%◌, ◌^◌, min, bit_and, bit_or, Bool, true, false, eqb, eqb-true, Some, None, MatchOption, vec_len, rules}
pub use Rattle.std.proofs.lemmas.Bool.{cases_eq, cases_lt, ne_eqb, lt-ltb, le-ltb}
pub use Rattle.std.proofs.lemmas.List.{append-nil, length-append, length-set, length-replicate, get_or-set_same, get_or-set_other, get_or_read, length-drop, take-append-drop, take_more, take-set-le, take_more_set, drop-set-lt, drop-set-add, same_lists, get_or-replicate, get_or_past, append_assoc, length-take}
pub use Rattle.std.proofs.lemmas.List.FromFn.{length-map-range_with_len, get_or-map-range_with_len}
pub use Rattle.std.proofs.lemmas.Nat.Bits.{bit_at-trailing_zeros, bit_at-zero, bit_at_set_same, bit_at_set_other, bit_at_clear_same, bit_at_clear_other, shr_and_one}
pub use Rattle.std.proofs.lemmas.Option.{slice_get_within, none-some, same_Some}
pub use Rattle.std.proofs.raw_atomic.Walks.{proved}
pub use Rattle.std.specs.Int.{bit_at, trailing_zeros, w64, bit_not}
pub use Rattle.std.specs.Prelude.{slice_get}
pub use Rattle.aig_core.specs.Aig.{Aig, first_and, IsAnd, IsNormal, AreNormal, node_count, pair_of}
pub use Rattle.aig_core.specs.declared.lit.Lit.{Lit}
pub use Rattle.aig_core.specs.declared.lit.Pair.{Pair}
pub use Rattle.list_laws.proofs.Members.{In-get_or}
pub use Rattle.list_laws.specs.Members.{In}
pub use Rattle.ppc_pack.specs.Pack.{PackValue, IsPack}
pub use Rattle.dirty_idx.specs.Layers.{word_at, AreTold, bit_above, IsClimbed, IsSomeOnTheWay, IsNoneOnTheWay, IsRetold}
pub use Rattle.dirty_idx.specs.Listed.{readers_in, count_below, AreCounted, AreSummed, lists_of, AreOf, AreFilled, node_readings, bit_readings, parts_of, AreParts}
pub use Rattle.dirty_idx.specs.Marks.{is_marked, IsLeast, IsEmpty, without}
pub use Rattle.dirty_idx.specs.Readers.{Reads, IsLitOf, AreAll, AreReaders, ReadersValue, nodes_of, addresses_of}
pub use Rattle.dirty_idx.specs.declared.lists.Reading.{Reading}
