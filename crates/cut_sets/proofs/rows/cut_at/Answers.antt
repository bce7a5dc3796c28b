use Rattle.cut_sets.proofs.Lemmas.{◌∙◌, ap, sym, subst, arith, IsAscending, signature_of, span_at}
use Rattle.cut_sets.proofs.rows.cut_at.Goals as goal

pub slice_bounds-of_first-count : goal.slice_bounds-of_first-count
slice_bounds-of_first-count c = let span = span_at c.args.leaves.now c.args.starts.now c.args.signatures.now c.args.place c.requires.flat c.requires.inside in omega (arith, span.ordered, span.inside)

pub overflow_sub-end : goal.overflow_sub-end
overflow_sub-end c = (span_at c.args.leaves.now c.args.starts.now c.args.signatures.now c.args.place c.requires.flat c.requires.inside).ordered

pub bounds-signatures-place : goal.bounds-signatures-place
bounds-signatures-place c = (span_at c.args.leaves.now c.args.starts.now c.args.signatures.now c.args.place c.requires.flat c.requires.inside).signature_in

pub of_first-requires-clause-inside : goal.of_first-requires-clause-inside
of_first-requires-clause-inside c = (span_at c.args.leaves.now c.args.starts.now c.args.signatures.now c.args.place c.requires.flat c.requires.inside).long

pub of_first-requires-clause-ascending : goal.of_first-requires-clause-ascending
of_first-requires-clause-ascending c =
    let span = span_at c.args.leaves.now c.args.starts.now c.args.signatures.now c.args.place c.requires.flat c.requires.inside in
    subst IsAscending (sym span.leaves_are) span.short.ascending

pub of_first-requires-clause-few : goal.of_first-requires-clause-few
of_first-requires-clause-few c = (span_at c.args.leaves.now c.args.starts.now c.args.signatures.now c.args.place c.requires.flat c.requires.inside).few

pub of_first-requires-clause-signed : goal.of_first-requires-clause-signed
of_first-requires-clause-signed c =
    let span = span_at c.args.leaves.now c.args.starts.now c.args.signatures.now c.args.place c.requires.flat c.requires.inside in
    span.signature_is ∙ ap signature_of (sym span.leaves_are)

pub returns : goal.returns
returns c = c.of_first.ensures ∙ (span_at c.args.leaves.now c.args.starts.now c.args.signatures.now c.args.place c.requires.flat c.requires.inside).leaves_are

pub slice_bounds-of_first-start : goal.slice_bounds-of_first-start
slice_bounds-of_first-start c = let span = span_at c.args.leaves.now c.args.starts.now c.args.signatures.now c.args.place c.requires.flat c.requires.inside in omega (arith, span.ordered, span.inside)
