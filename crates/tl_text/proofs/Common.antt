-- What the proofs of this crate cite of other crates, and its own definitions, passed on from one place.
pub use Rattle.std.proofs.Common.{◌≡◌, ℕ, zero, suc, ◌+◌, ◌-◌, ◌<◌, ◌≤◌, Bool, true, false, eqb, ◌&&◌, List, [], ◌∷◌, length, take, drop, get_or, refl, sym, ap, subst, ◌∙◌, inl, inr, arith, length-drop, get_or-drop, min, length-take, eq-eqb, ◌*◌, cond, Some, None, ltb, Option, ◌++◌, Result, Ok, Err, append_assoc, append-nil, not, ◌||◌, bytes_eq, map, is_some, length-append, find, codes, ◌≢◌, ◌/◌, ◌%◌, ◌^◌, leb, decimal, rules}
pub use Rattle.std.proofs.lemmas.Bool.{ne_eqb, cases_Bool, or_left, or_right, le-ltb, and_right, cases_lt, cond-true, cond-false, both_ways, or_parts, or_cases, ltb-true, false≢true, eqb-false, not-true, not-false, or_from}
pub use Rattle.std.proofs.lemmas.List.{drop_more, length-map}
pub use Rattle.std.proofs.lemmas.List.Folds.{list_any_at, find_at, list_any-append}
pub use Rattle.std.proofs.lemmas.List.Sums.{fails_before_first, suffix_len-take_no, position_or_len_is}
pub use Rattle.std.proofs.lemmas.Option.{none-some, same_Some, cond_some}
pub use Rattle.std.specs.List.{list_any, suffix_len, position_or_len, slice_range, position, list_all, flat_map, slice_index, fold}
pub use Rattle.std.specs.Prelude.{◌⊎◌, IfOk, OnErr, filter, slice_get, replicate, IfErr}
pub use Rattle.list_laws.proofs.Choice.{choose_one, choose}
pub use Rattle.list_laws.proofs.FirstPlace.{list_any-position_none, position_none, none_pass}
pub use Rattle.list_laws.proofs.Members.{In-append, In-map, In-get_or}
pub use Rattle.list_laws.specs.Members.{In}
pub use Rattle.tl_fault.specs.OrMemory.{OrMemory, Unless}
pub use Rattle.tl_text.specs.Clean.{IsClean, AreCleanIn}
pub use Rattle.tl_text.specs.Decimal.{is_decimal, number_from, decimal_of, is_digit}
pub use Rattle.tl_text.specs.LineValue.{IsWithin, token_bytes, LineValue, AreLinesIn, words_line, WordsLine}
pub use Rattle.tl_text.specs.Lines.{is_bad, has_slash_end, words, content, before_comment, without_last, ends_in, goes_on, physical_lines, before_first, without_return, with_physical, lines_from, lines_of, closed, put_before, extended, counted, trimmed}
pub use Rattle.tl_text.specs.NameIndex.{place_of}
pub use Rattle.tl_text.specs.NameSets.{has_name, with_name, with_names}
pub use Rattle.tl_text.specs.Once.{AreOnce}
pub use Rattle.tl_text.specs.Refusals.{refusal_of}
pub use Rattle.tl_text.specs.Spans.{spans}
pub use Rattle.tl_text.specs.Tokens.{is_blank, tokens_at, IsRunAt, begins_run, lengthened, IsTokenRun, AreRuns}
pub use Rattle.tl_text.specs.declared.text_err.TextErr.{TextErr}
pub use Rattle.tl_text.specs.declared.text_err.TextErr.TheVariants.{BadByte, TrailingSlash, Memory}
pub use Rattle.tl_text.specs.declared.token.Token.{Token}
pub use Rattle.std.proofs.lemmas.Result.{IfOk-weaker, IfErr-weaker, err_from_is_err_and}
