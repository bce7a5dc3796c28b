-- What the proofs of this crate cite of other crates, and its own definitions, passed on from one place.
pub use Rattle.std.proofs.Common.{replicate, ◌≡◌, ℕ, zero, suc, ◌+◌, ◌≤◌, List, [], ◌∷◌, ◌++◌, length, map, take, drop, Option, Some, None, refl, sym, ap, ◌∙◌, Bool, true, false, eqb, ltb, leb, bytes_eq, subst, codes, inl, inr, Ok, arith, ◌<◌, get_or, ◌≢◌, is_some, rules, vec_len}
pub use Rattle.std.proofs.lemmas.Bool.{or_parts, eqb-true, ltb-true, cases_lt, cond-true, cond-false, eq-eqb, ne_eqb}
pub use Rattle.std.proofs.lemmas.List.{take_all, take-append-drop, map-append, take_rest, length-map}
pub use Rattle.std.proofs.lemmas.Option.{none-some, same_Some, slice_get_within, slice_get_past, slice_get_read, slice_get-get_or}
pub use Rattle.std.specs.List.{flat_map}
pub use Rattle.std.specs.Option.{option_map, option_and_then}
pub use Rattle.std.specs.Prelude.{slice_get}
pub use Rattle.list_laws.proofs.Items.{drop_at, member_at}
pub use Rattle.list_laws.proofs.Members.{place_in, In-get, In-get_or, In-right}
pub use Rattle.list_laws.proofs.Places.{drop_get, take_get, drop_past}
pub use Rattle.list_laws.specs.Members.{In}
pub use Rattle.tl_fault.proofs.OrMemoryLemmas.{OrMemory-map}
pub use Rattle.tl_fault.proofs.PassedOn.{passed_on, passed_err}
pub use Rattle.tl_fault.specs.OrMemory.{OrMemory}
pub use Rattle.tl_io.specs.declared.Assign.{Assign}
pub use Rattle.tl_piece.proofs.AddedLemmas.{added_none, added_as, added_twice, put_over}
pub use Rattle.tl_piece.proofs.PartLemmas.{added_byte, added_part}
pub use Rattle.tl_piece.specs.Added.{IsAdded}
pub use Rattle.tl_text.proofs.NameSetLemmas.{place_is, has_one_more, place_some, place_none, new_names}
pub use Rattle.tl_text.proofs.TextOfLemmas.{text_settled, lines_fault, text_read, text_refused}
pub use Rattle.tl_text.specs.LineValue.{WordsLine, LineValue, words_line, token_bytes}
pub use Rattle.tl_text.specs.NameIndex.{place_of}
pub use Rattle.tl_text.specs.NameSets.{has_name, with_names}
pub use Rattle.tl_text.specs.TextOf.{at_line}
pub use Rattle.tl_text.specs.declared.token.Token.{Token}
pub use Rattle.run_text.specs.EventValue.{in_front, each_of, EventValue, Set, Cycle, Upset, Scrub, Image, event_values, event_value}
pub use Rattle.run_text.specs.Fits.{Fits}
pub use Rattle.run_text.specs.Lines.{bit_digit, bit_string, header_line, cycle_line, bits_header_line, write_text, set_line, scrub_line, upset_line, image_line, part_text}
pub use Rattle.run_text.specs.NamesValue.{NamesValue}
pub use Rattle.run_text.specs.Sayings.{Saying, said_of, split_last, setting_of, settings_of, bits_of, address_of, split_before, digit_bit}
pub use Rattle.run_text.specs.ScriptRefusals.{refusal_of}
pub use Rattle.run_text.specs.ScriptText.{settings_refusal, cycle_refusal, saying_refusal, line_refusal, assigned, assign_of, event_of, line_event, AreEventsOf, refusal_at, IsScript, IsScriptFault, script_err, IsFirstRefusal, HasOneReading}
pub use Rattle.run_text.specs.declared.script_err.ScriptErr.{ScriptErr}
pub use Rattle.run_text.specs.declared.script_err.ScriptErr.TheVariants.{NotParameter, RepeatedInSet, Width, Address, Events, Malformed, NotHere, Memory}
pub use Rattle.run_text.specs.declared.setting.Setting.{Setting}
