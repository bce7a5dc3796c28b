-- The lemmas that answers cite, passed on from one place.
pub use Rattle.ppc_file.proofs.Common.{arith, at_drop_more, flat_map, bit_bytes, ◌≡◌, ℕ, ◌+◌, ◌-◌, Some, sym, ap, ◌∙◌, slice_get, first_and, node_bytes, added_as, ◌≤◌, length, subst, In-get_or, PackParam, MOST_NAME_BYTES, param_bytes, List, replicate, eqb-true, Aig, Parameter, Trailing, in_bits, IsPackFile, IsPackFault, StandsAt, nil_from_length, nothing, lettered, refl, added_twice, ◌<◌, slice_index_or, in_nodes, [], le-ltb, length-append, ◌∷◌, ◌*◌, ◌||◌, Bool, false, list_any, node_count, is_pair, Pair, is_bad_pair, ◌++◌, Err, length-replicate, passed_on, OrMemory, with_pairs, MOST_PACK_NODES, node_at, refusal_of, OrMemory-map, in_params, map-append, names_of_params, versioned}
pub use Rattle.ppc_file.proofs.NumberLemmas.{added_more, next_node, not_zero, pack_parts, one_at_least, below_power, fits_word}
pub use Rattle.ppc_file.proofs.ReadLemmas.{is_pack, is_file, trailing, refused_on, by_version, bit_read, bit_refused, all_read, is_made, is_found, node_read, no_next_node, param_new, param_read, param_refused}
pub use Rattle.ppc_file.proofs.StandLemmas.{field_refused, stands_bit_count, stands_node_count, stands_param_count}
