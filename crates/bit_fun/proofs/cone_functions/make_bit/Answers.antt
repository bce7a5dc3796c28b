use Rattle.bit_fun.proofs.Lemmas.{◌≡◌, ◌∙◌, ◌≤◌, ℕ, List, length, length-reverse, subst, sym, ap, In, with_leaves, AreLits, IsGrown, lits_stay, leaf_inside, bit_made}
use Rattle.cut_sets.specs.declared.limits.TheConstants.{MOST_LEAVES}
use Rattle.bit_fun.proofs.cone_functions.make_bit.Goals as goal

pub set_leaves-requires-clause-few : goal.set_leaves-requires-clause-few
set_leaves-requires-clause-few c = subst (λ (ls : List ℕ). length ls ≤ MOST_LEAVES) (sym c.leaves.ensures) c.requires.few

pub set_leaves-requires-clause-inside : goal.set_leaves-requires-clause-inside
set_leaves-requires-clause-inside c = λ m i. leaf_inside c.args.graph.now c.args.pack.now c.args.table.now c.args.lits.now c.requires.table c.requires.lits m (subst (λ (ls : List ℕ). In ls m) c.leaves.ensures i)

pub make_nodes-requires-clause-lits : goal.make_nodes-requires-clause-lits
make_nodes-requires-clause-lits c =
    let set : c.set_leaves.new.lits ≡ with_leaves c.args.lits.now c.args.v 0 c.args.table.now.leaves = c.set_leaves.ensures ∙ ap (with_leaves c.args.lits.now c.args.v 0) c.leaves.ensures in
    subst (AreLits c.args.graph.now c.args.pack.now) (sym set)
    (lits_stay c.args.graph.now c.args.pack.now c.args.lits.now c.args.v 0 c.args.table.now.leaves
    (leaf_inside c.args.graph.now c.args.pack.now c.args.table.now c.args.lits.now c.requires.table c.requires.lits) c.requires.lits)

pub returns-clause-made : goal.returns-clause-made
returns-clause-made c = λ luts kept ready.
    bit_made c.args.graph.now luts kept c.args.table.now c.args.v _ c.args.pack.now c.args.lits.now c.set_leaves.new.lits c.make_nodes.new.pack c.make_nodes.new.lits c.fan_in_lit.result c.requires.normal c.requires.table
    ready (c.set_leaves.ensures ∙ ap (with_leaves c.args.lits.now c.args.v 0) c.leaves.ensures) c.in_ok-make_nodes.ensures c.fan_in_lit.ensures

pub returns-clause-grown : goal.returns-clause-grown
returns-clause-grown c = subst (λ n. IsGrown c.args.graph.now c.args.pack.now c.make_nodes.new.pack n c.make_nodes.new.lits) (length-reverse c.args.order.now) c.in_ok-make_nodes.ensures.grown
