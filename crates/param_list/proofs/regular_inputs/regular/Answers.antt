use Rattle.param_list.proofs.Common.{List, ℕ, length, map, sym, ap, ◌∙◌, subst, slice_get, AreRegularPlaces}
use Rattle.param_list.proofs.RegularLemmas.{regular_places, names_there, as_many, is_split}
use Rattle.param_list.proofs.regular_inputs.regular.Goals as goal

pub returns-in_err-places-clause-split : goal.returns-in_err-places-clause-split
returns-in_err-places-clause-split c = is_split c.args.flat.now c.args.params.now.list c.requires.once c.requires.are

pub returns-clause-places : goal.returns-clause-places
returns-clause-places c = subst (AreRegularPlaces c.args.flat.now c.args.params.now.list) (sym c.in_ok-places.ensures) (regular_places c.args.flat.now c.args.params.now.list c.requires.once c.requires.are)

pub returns-clause-names : goal.returns-clause-names
returns-clause-names c = ap (map (slice_get c.args.flat.now.inputs)) c.in_ok-places.ensures ∙ names_there c.args.flat.now c.args.params.now.list c.requires.once c.requires.are

pub returns-clause-count : goal.returns-clause-count
returns-clause-count c = ap (λ (l : List ℕ). length l) c.in_ok-places.ensures ∙ as_many c.args.flat.now c.args.params.now.list c.requires.once c.requires.are

pub returns-clause-split : goal.returns-clause-split
returns-clause-split c = is_split c.args.flat.now c.args.params.now.list c.requires.once c.requires.are
