use Rattle.blif_flat.proofs.Common.{◌≡◌, List, [], ◌∷◌, ◌++◌, length, reverse, Some, ap, sym, subst, ◌∙◌, arith, slice_get, length-append, same_Some, slice_get_within, ModelValue, subckts_of, Instance, Listed, entries_from}
use Rattle.blif_flat.proofs.Hierarchy.InstanceRowLemmas.{listed_begin, listed_pushed, listed_empty, next_popped}
use Rattle.blif_flat.proofs.circuit.instances.instances.Goals as goal

pub loop-entry-init : goal.loop-entry-init
loop-entry-init c = listed_begin c.args.library.now c.new-rows.result.items c.new-stack.result.items c.push.new.self.items c.new-rows.ensures.items c.new-stack.ensures.items c.in_ok-push.ensures.items c.requires.light

pub overflow_cast-place : goal.overflow_cast-place
overflow_cast-place c =
    let n = next_popped c.args.library.now c.loop-entry.rows.items c.loop-entry.stack.items c.pop.new.self.items c.in-Some.entry c.in-Some.ensures.items c.loop-entry.invariant in
    omega arith

pub push_entries-requires-clause-room : goal.push_entries-requires-clause-room
push_entries-requires-clause-room c =
    let n = next_popped c.args.library.now c.loop-entry.rows.items c.loop-entry.stack.items c.pop.new.self.items c.in-Some.entry c.in-Some.ensures.items c.loop-entry.invariant in
    slice_get_within c.args.library.now.models c.in-Some.entry.model n.model n.number

pub push_entries-requires-clause-few : goal.push_entries-requires-clause-few
push_entries-requires-clause-few c m e =
    let n = next_popped c.args.library.now c.loop-entry.rows.items c.loop-entry.stack.items c.pop.new.self.items c.in-Some.entry c.in-Some.ensures.items c.loop-entry.invariant in
    let few = n.few in
    omega (arith, ap (λ (x : ModelValue). length (subckts_of x.commands)) (same_Some n.model m (sym n.number ∙ e)))

pub loop-entry-smaller : goal.loop-entry-smaller
loop-entry-smaller c =
    let n = next_popped c.args.library.now c.loop-entry.rows.items c.loop-entry.stack.items c.pop.new.self.items c.in-Some.entry c.in-Some.ensures.items c.loop-entry.invariant in
    omega (arith, ap length c.in_ok-push-2.ensures.items ∙ length-append c.loop-entry.rows.items (c.in-Some.entry ∷ []))

pub loop-entry-preserved : goal.loop-entry-preserved
loop-entry-preserved c =
    let len : c.len-place.result ≡ length c.loop-entry.rows.items = c.len-place.ensures ∙ c.loop-entry.rows.ok.0 in
    let news : (m : ModelValue) → slice_get c.args.library.now.models c.in-Some.entry.model ≡ Some m → c.push_entries.new.stack.items ≡ c.pop.new.self.items ++ reverse (entries_from c.args.index.now.names (length c.loop-entry.rows.items) [] m.commands) =
    λ m e. c.in_ok-push_entries.ensures m e ∙ ap (λ k. c.pop.new.self.items ++ reverse (entries_from c.args.index.now.names k [] m.commands)) len in
    subst (λ (l : List Instance). Listed c.args.library.now l (reverse c.push_entries.new.stack.items)) (sym c.in_ok-push-2.ensures.items)
    (listed_pushed c.args.library.now c.args.index.now.names c.requires.names c.loop-entry.rows.items c.loop-entry.stack.items c.pop.new.self.items c.push_entries.new.stack.items c.in-Some.entry c.in-Some.ensures.items news c.loop-entry.invariant)

pub returns : goal.returns
returns c = listed_empty c.args.library.now c.loop-entry.rows.items c.loop-entry.stack.items (sym c.loop-entry.stack.ok.0 ∙ c.in_default.ensures.cases.0) c.loop-entry.invariant
