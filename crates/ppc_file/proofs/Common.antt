-- What the proofs of this crate cite of other crates, and its own definitions, passed on from one place.
pub use Rattle.std.proofs.Common.{◌≡◌, ℕ, ◌+◌, List, ◌++◌, length, replicate, drop, Some, sym, ap, ◌∙◌, arith, append_assoc, suc, ◌-◌, ◌*◌, ◌/◌, ◌<◌, ◌≤◌, Bool, true, false, not, ◌||◌, cond, ltb, leb, eqb, bytes_eq, [], ◌∷◌, take, Result, Ok, Err, refl, subst, inl, inr, eqb-true, length-append, get_or, append-nil, None, zero, ◌%◌, ◌^◌, Option, min, max, ◌⊎◌, rules, slice_index_or}
pub use Rattle.std.proofs.Math.Nat.{pow-le-pow_right}
pub use Rattle.std.proofs.lemmas.Bool.{ltb-false, leb-false, cases_Bool, or_parts, not-false, le-ltb, lt-leb, or_from, ne_eqb, cases_lt, lt-ltb}
pub use Rattle.std.proofs.lemmas.Bool.Decides.{nat_tests}
pub use Rattle.std.proofs.lemmas.List.{length-replicate, length-take, take_at, drop_at, map-append, at_drop_more, take-append-drop, get_or-drop, get_or-take, get_or_past, nil_from_length}
pub use Rattle.std.proofs.lemmas.Option.{none-some, slice_get_within}
pub use Rattle.std.specs.Int.{w16, w32, to_be_bytes, Width, byte_len, from_be_bytes}
pub use Rattle.std.specs.List.{list_any, position, flat_map}
pub use Rattle.std.specs.Prelude.{slice_get, IsErrAnd, MatchResult}
pub use Rattle.aig_core.proofs.Keeping.{AreNormal-push}
pub use Rattle.aig_core.specs.Aig.{Aig, first_and, IsNormal, AreNormal, node_count}
pub use Rattle.aig_core.specs.And.{is_pair, and_of, found_or_new, with_pairs}
pub use Rattle.aig_core.specs.declared.lit.Kind.TheVariants.{Parameter}
pub use Rattle.aig_core.specs.declared.lit.Lit.{Lit}
pub use Rattle.aig_core.specs.declared.lit.Pair.{Pair}
pub use Rattle.list_laws.proofs.FirstPlace.{position_none, list_any-position_none}
pub use Rattle.list_laws.proofs.Members.{In-right, In-map, place_in, In-push, In-get_or}
pub use Rattle.list_laws.proofs.Places.{drop_get, get_left, get_end}
pub use Rattle.list_laws.specs.Members.{In}
pub use Rattle.ppc_pack.specs.Pack.{PackValue, IsPack}
pub use Rattle.ppc_pack.specs.declared.pack.PackParam.{PackParam}
pub use Rattle.ppc_pack.specs.declared.pack.TheConstants.{MOST_PACK_NODES, MOST_PACK_BITS}
pub use Rattle.tl_fault.proofs.PassedOn.{passed_on}
pub use Rattle.tl_fault.specs.OrMemory.{OrMemory}
pub use Rattle.tl_piece.proofs.AddedLemmas.{added_twice, added_as, put_over}
pub use Rattle.tl_text.specs.Clean.{IsClean}
pub use Rattle.tl_text.specs.NameIndex.{place_of}
pub use Rattle.tl_text.specs.Once.{AreOnce}
pub use Rattle.tl_text.specs.declared.limits.TheConstants.{MOST_NAME_BYTES, MOST_PARAMETERS}
pub use Rattle.ppc_file.specs.Bytes.{node_bytes, nodes_bytes, head_bytes, params_part, nodes_part, bits_part, bytes_of, magic, version_number, bit_byte, param_bytes, bit_bytes}
pub use Rattle.ppc_file.specs.Fields.{bytes_at, if_magic, magic_at, version_by, version_at, if_some, name_length_at, is_bad_name, if_good_name, name_at, value_at, with_name, value_behind, name_behind, param_at, pair, higher_behind, lower_behind, fan_ins_at, is_bad_pair, if_new_pair, node_at, if_literal, bit_at, is_bad_byte, names_of_params, param_count_at, node_count_at, bit_count_at}
pub use Rattle.ppc_file.specs.Fronts.{lettered, in_nodes, in_bits, AreParams, AreNodes, Front, nothing, IsSound, next_at, in_params, versioned, spelling, AreBits, AreSome, read_into}
pub use Rattle.ppc_file.specs.Numbers.{◌>>=◌, offset, spelled, unless_over, number_at, Field, sevens, sevens_at, behind_byte}
pub use Rattle.ppc_file.specs.PackFile.{IsPackFault, IsPackFile, AreSame, HasOneReading}
pub use Rattle.ppc_file.specs.Reading.{StandsAt, Added}
pub use Rattle.ppc_file.specs.Refusals.{refusal_of}
pub use Rattle.ppc_file.specs.declared.pack_err.PackErr.{PackErr}
pub use Rattle.ppc_file.specs.declared.pack_err.PackErr.TheVariants.{Truncated, BadNumber, Trailing}
pub use Rattle.ppc_file.specs.declared.version.Version.{Version}
pub use Rattle.ppc_file.specs.declared.version.Version.TheVariants.{One, Two}
pub use Rattle.tl_fault.proofs.OrMemoryLemmas.{Unless-of, OrMemory-map}
