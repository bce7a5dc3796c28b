-- The lemmas that answers cite, passed on from one place.
pub use Rattle.cert_check.proofs.Common.{List, ◌∷◌, [], ◌++◌, length, length-append, ap, ◌∙◌, arith, StepValue, saying_value, ◌≡◌, ◌-◌, false, map, take, drop, subst, sym, take_rest, take-append-drop, In, member_at, In-right, OrMemory, OrMemory-map, LineValue, WordsLine, words_line, said_of, steps_said, fits_at, AreSaid, IsMalformed, IsMisfit, refusal_of, Malformed, passed_err, ℕ, ◌+◌, Some, None, length-map, Ok, refl, lines_fault, text_read, text_refused, cert_err, AreLinesOf, IsCertText, IsWritable, get_or, roots_of, CertificateValue, StepsFault, IsFault, AreInTurn, claim_of, IsReached, IsValid, inl, inr, RootsValue, lits_of, Lit, SomeNeeds, drop_past, slice_get-get_or, In-get, number_of, In-get_or, ◌≤◌, PathValue, IsPath, added_as, added_twice, rules, put_over}
pub use Rattle.cert_check.proofs.LineLemmas.{path_pushed, path_added, all_lines, first_wrong, later_wrong, some_lines, nothing_said, wrong_place, one_more, all_read, line_at, numbers_next, numbers_stop}
pub use Rattle.cert_check.proofs.RoundTrip.{text_writable, reads_back}
pub use Rattle.cert_check.proofs.CheckLemmas.{one_verdict, fault_of_steps, fault_of_depth, reached_all, reached_back, some_left, some_right, neither, lits_drop}
pub use Rattle.cert_check.proofs.StampLemmas.{stamped_more, clash_as}
pub use Rattle.cert_check.proofs.WriteLemmas.{whole_text, claim_line, path_line, step_line}
