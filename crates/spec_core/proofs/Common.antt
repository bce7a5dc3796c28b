-- What the proofs of this crate cite of other crates, and its own definitions, passed on from one place.
pub use Rattle.std.proofs.Common.{◌≡◌, ℕ, zero, suc, ◌+◌, ◌-◌, ◌/◌, ◌<◌, ◌≤◌, Bool, false, List, [], ◌∷◌, length, get_or, replicate, slice_set, refl, sym, ap, ◌∙◌, subst, inl, inr, arith, ◌%◌, true, eqb, map, drop, Some, ◌⊎◌, Option, None, ◌&&◌, ◌||◌, take, cond, not, ◌++◌, append-nil, length-append, append_assoc, ◌*◌, rules}
pub use Rattle.std.proofs.lemmas.Bool.{cases_lt, false≢true, or_from, cases_Bool, or_left, or_right, or_cases}
pub use Rattle.std.proofs.lemmas.List.{length-set, get_or-set_same, get_or-set_other, get_or-replicate, get_or_past, length-replicate, ext_get_or, length-map, length-take, length-drop, get_or-take, get_or-drop, set-get_or, take_all, map-append, get_or_read}
pub use Rattle.std.proofs.lemmas.List.Elements.{filter_agree, filter-append}
pub use Rattle.std.proofs.lemmas.List.Filters.{length-filter_more, length-filter_both}
pub use Rattle.std.proofs.lemmas.Option.{none-some, same_Some, get_or_from_slice_get, slice_get_within, slice_get-get_or}
pub use Rattle.std.specs.List.{slice_get, range_with_len, filter}
pub use Rattle.aig_core.proofs.FitLemmas.{one_fit}
pub use Rattle.aig_core.proofs.NodeLemmas.{node_normal, node_at}
pub use Rattle.aig_core.specs.Aig.{first_and, node_count, AreNormal, Aig, IsAnd, IsNode, IsNormal}
pub use Rattle.aig_core.specs.Value.{xor, node_value, FitsGraph, value_of, HasOneFit, in_phase}
pub use Rattle.aig_core.specs.declared.lit.Lit.{Lit}
pub use Rattle.aig_core.specs.declared.lit.Pair.{Pair}
pub use Rattle.dirty_idx.proofs.ReadLemmas.{reads_and, reads_above, lit_within}
pub use Rattle.dirty_idx.specs.Marks.{is_marked, IsLeast, IsEmpty, without}
pub use Rattle.dirty_idx.specs.Readers.{ReadersValue, AreReaders, nodes_of, Reads, IsLitOf, addresses_of}
pub use Rattle.list_laws.proofs.Choice.{choose}
pub use Rattle.list_laws.proofs.Members.{place_in, In-filter, in_filter, from_map, In-get_or}
pub use Rattle.list_laws.proofs.Places.{same_or, at_within}
pub use Rattle.list_laws.specs.Members.{In}
pub use Rattle.ppc_pack.proofs.ConfLemmas.{kinds_count, has_one_conf}
pub use Rattle.ppc_pack.specs.Pack.{PackValue, IsPack, IsConf, HasOneConf, inits_of}
pub use Rattle.tl_io.proofs.BitLemmas.{length-written}
pub use Rattle.tl_io.specs.Assigns.{AreAssigned, assigned}
pub use Rattle.tl_io.specs.Writes.{written, AreAscending, AreBitsOf, address_of}
pub use Rattle.tl_io.specs.declared.Assign.{Assign}
pub use Rattle.tl_io.specs.declared.Write.{Write}
pub use Rattle.spec_core.specs.Keeps.{DeviceValue, IsSent, writes_where, params_in, IsIdle, IsChange, Keeps}
pub use Rattle.spec_core.specs.Differences.{config_bit, differs_at, write_of, differences}
pub use Rattle.spec_core.specs.Events.{IsSet, HostState, IsUpset, IsScrub}
pub use Rattle.spec_core.specs.Sweep.{Progress, Belong, stored, with_assigned, AreMarked, IsSweeping, EvaluationValue, bits_under, IsSwept, with_marks, IsStale, product_of, IsMoved}
pub use Rattle.spec_core.specs.Touched.{is_changed, is_touched, touched}
