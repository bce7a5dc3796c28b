-- What the proofs of this crate cite of other crates, and its own definitions, passed on from one place.
pub use Rattle.std.proofs.Common.{◌≡◌, ℕ, ◌==◌, if◌then◌else◌, List, [], ◌∷◌, ◌++◌, map, Some, slice_get, zero, suc, refl, sym, ap, ◌∙◌, subst, ◌≢◌, ◌+◌, ◌<◌, ◌≤◌, Bool, true, ◌||◌, not, eqb, leb, inl, inr, arith, cond, take, drop, set, length, get_or, get_or-set_same, get_or-set_other, length-set, append_assoc, append-nil, Result, Ok, Err, ◌^◌, false, Option, None, bytes_eq, codes, ◌/◌, ◌⊎◌, ◌-◌, decimal, length-append, min, rules}
pub use Rattle.std.proofs.Math.Path.{fun_ext}
pub use Rattle.std.proofs.lemmas.Bool.{and_parts, or_cases, or_left, or_right, not-true, eqb-true, leb-true, eq-eqb, both_ways, eqb-false, cases_eq, cases_lt, cond-true, cond-false, le-leb, ne_eqb}
pub use Rattle.std.proofs.lemmas.List.{length-map, length-take, map-append, take_more, take_all, take-append-drop, take_rest}
pub use Rattle.std.proofs.lemmas.List.Concat.{flat_map-append}
pub use Rattle.std.proofs.lemmas.Option.{none-some, same_Some, slice_get-map, slice_get_within, slice_get_read, slice_get-get_or}
pub use Rattle.std.specs.List.{flat_map, list_all, list_any}
pub use Rattle.std.specs.Option.{option_map, option_and_then}
pub use Rattle.std.specs.Prelude.{MatchResult}
pub use Rattle.aig_core.specs.Aig.{Aig, IsAnd, IsSource, first_and, node_count, AreNormal}
pub use Rattle.aig_core.specs.Roots.{lits_of, roots_of, RootsValue}
pub use Rattle.aig_core.specs.declared.lit.Kind.TheVariants.{Regular}
pub use Rattle.aig_core.specs.declared.lit.Lit.{Lit}
pub use Rattle.aig_core.specs.declared.lit.Pair.{Pair}
pub use Rattle.cut_sets.specs.Cuts.{Blocks, IsCut}
pub use Rattle.list_laws.proofs.Choice.{choose, some_else}
pub use Rattle.list_laws.proofs.Items.{drop_at, member_at}
pub use Rattle.list_laws.proofs.Members.{In-map, from_map, In-push, In-pushed, In-left, In-right, In-get, place_in, In-append, In-get_or}
pub use Rattle.list_laws.proofs.Places.{drop_get, take_get, drop_past, mapped_at}
pub use Rattle.list_laws.specs.Members.{In}
pub use Rattle.list_laws.specs.Order.{IsAscending}
pub use Rattle.tl_fault.proofs.OrMemoryLemmas.{OrMemory-map, Unless-of}
pub use Rattle.tl_fault.proofs.PassedOn.{passed_err}
pub use Rattle.tl_fault.specs.OrMemory.{OrMemory}
pub use Rattle.tl_piece.proofs.AddedLemmas.{added_as, added_twice, added_none, put_over}
pub use Rattle.tl_piece.proofs.PartLemmas.{added_part, added_item}
pub use Rattle.tl_piece.specs.Added.{IsAdded}
pub use Rattle.tl_text.proofs.TextOfLemmas.{text_settled, lines_fault, text_read, text_refused}
pub use Rattle.tl_text.specs.LineValue.{WordsLine, words_line, LineValue, token_bytes}
pub use Rattle.tl_text.specs.declared.token.Token.{Token}
pub use Rattle.cert_check.specs.CertText.{says_depth, says_claim, SaidLine, path_said, steps_said, CertSaying, says_path, small, number_of, in_front, numbers_of, depth_with, claim_with, path_with, saying_by, said_of, step_said, AreSaid, AreLinesOf, IsCertText, fits_at, first_misfit, IsMalformed, malformed_line, cert_err, HasOneReading, IsMisfit, saying_value}
pub use Rattle.cert_check.specs.CertificateValue.{PathValue, StepValue, CertificateValue}
pub use Rattle.cert_check.specs.Faults.{MayStand, IsFault, First, IsAbove, StepFault, StepsFault, DepthFault, HasOneVerdict, NodesFault, PathsFault, IsNext, AreInTurn}
pub use Rattle.cert_check.specs.Valid.{IsLowerBound, AreLowerBounds, claim_of, IsJustified, IsReached, IsValid, node, complemented, SomeNeeds, path_count, Needs}
pub use Rattle.cut_sets.specs.Paths.{IsPath, IsFanIn, first, second, ArePathsTo}
pub use Rattle.cert_check.specs.Refusals.{refusal_of}
pub use Rattle.cert_check.specs.Stamps.{Clashes, IsFirstClash, AreStamped, IsPathFault, no_path, clash, IsPathTaken}
pub use Rattle.cert_check.specs.WrittenText.{number_text, path_text, claim_text, step_text, saying_words, line_text, cert_text, bare_path, bare_step, bare, IsWritableStep, IsWritable, cert_lines, IsWritablePath, ReadsBack, words_text}
pub use Rattle.cert_check.specs.declared.cert_err.CertErr.{CertErr}
pub use Rattle.cert_check.specs.declared.cert_err.CertErr.TheVariants.{PathCount, Shared, NotReached, BadClaim, Malformed}
pub use Rattle.cut_sets.proofs.PathLemmas.{fan_in_cases, path_below, path_made, path_edge, path_end}
