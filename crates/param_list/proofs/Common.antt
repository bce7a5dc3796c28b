-- What the proofs of this crate cite of other crates, and its own definitions, passed on from one place.
pub use Rattle.std.proofs.Common.{◌≡◌, ℕ, ◌+◌, ◌<◌, Bool, List, [], ◌∷◌, ◌++◌, length, get_or, map, Option, Some, None, Ok, Err, refl, sym, ap, ◌∙◌, subst, inl, inr, zero, suc, true, false, not, cond, ◌||◌, replicate, bytes_eq, slice_set, arith, codes, ◌≤◌, take, length-append, ltb, leb, is_some, vec_len, drop}
pub use Rattle.std.proofs.lemmas.Bool.{or_left, or_right, cases_lt, or_parts, or_from, ltb-false, leb-false, le-ltb, lt-leb, both_ways, cases_Bool, not-true, not_from_false}
pub use Rattle.std.proofs.lemmas.List.{length-map, map-append}
pub use Rattle.std.proofs.lemmas.List.Folds.{list_any-append}
pub use Rattle.std.proofs.lemmas.Option.{none-some, same_Some, slice_get-map, slice_get_read, slice_get_past, slice_get_within}
pub use Rattle.std.specs.Option.{option_map, option_and_then}
pub use Rattle.std.specs.Prelude.{slice_get, filter}
pub use Rattle.list_laws.proofs.Apart.{apart_once, pushed_apart, AreApart, joined_apart, filtered_apart, apart_short}
pub use Rattle.list_laws.proofs.Items.{member_at}
pub use Rattle.list_laws.proofs.Members.{from_map, In-get, map_agree, place_in, In-push, In-map, In-append, In-left, In-right, In-filter, in_filter}
pub use Rattle.list_laws.proofs.Places.{same_list, get_pushed, take_get, at_within}
pub use Rattle.list_laws.specs.Members.{In}
pub use Rattle.netlist.specs.FlatValue.{FlatValue}
pub use Rattle.netlist.specs.Models.{has_name}
pub use Rattle.tl_fault.proofs.OrMemoryLemmas.{OrMemory-map}
pub use Rattle.tl_fault.proofs.PassedOn.{passed_err}
pub use Rattle.tl_fault.specs.OrMemory.{OrMemory}
pub use Rattle.tl_text.proofs.NameSetLemmas.{place_none, has_one_more, no_match, or_nothing, has_in, in_has, place_is, place_some, new_names, has_with_names}
pub use Rattle.tl_text.proofs.TextOfLemmas.{text_settled, lines_fault, text_refused}
pub use Rattle.tl_text.specs.Clean.{IsClean, AreCleanIn}
pub use Rattle.tl_text.specs.LineValue.{LineValue, token_bytes, words_line, WordsLine}
pub use Rattle.tl_text.specs.NameIndex.{place_of}
pub use Rattle.tl_text.specs.Once.{AreOnce}
pub use Rattle.tl_text.specs.TextOf.{at_line}
pub use Rattle.param_list.specs.Parameters.{param_names, AreNamed, AreParameters, param_inits, regular_names, IsSplit, ParamsValue}
pub use Rattle.param_list.specs.ParamsText.{par_err, Entry, entry_of, entry_with, entry_refusal, line_refusal, IsParamOf, refusal_at, IsFirstRefusal, AreParamsOf, HasOneReading, IsParamsText, IsParamsFault, with_name, names_said}
pub use Rattle.param_list.specs.Refusals.{refusal_of}
pub use Rattle.param_list.specs.RegularPlaces.{marks_of, off_places, AreRegularPlaces, IsFree}
pub use Rattle.param_list.specs.declared.par_err.ParErr.{ParErr}
pub use Rattle.param_list.specs.declared.par_err.ParErr.TheVariants.{Malformed, Parameters, NotInput, IsClock, Repeated}
pub use Rattle.param_list.specs.declared.params.Param.{Param}
