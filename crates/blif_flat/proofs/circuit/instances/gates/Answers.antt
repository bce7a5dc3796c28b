use Rattle.blif_flat.proofs.Lemmas.{◌≡◌, [], List, subst, sym, arith, slice_get-get_or, Gate, paths_of, places_at, kind_test, AreGatesAt, with_rows, all_listed, all_gates, few_gates, row_commands}
use Rattle.blif_flat.proofs.circuit.instances.gates.Goals as goal

pub add_model-requires : goal.add_model-requires
add_model-requires c m e = row_commands c.args.library.now c.args.instances.now c.requires.instances c.requires.light c.loop-row.row _ (slice_get-get_or c.args.instances.now c.loop-row.row _ c.loop-row-test.true) m e

pub returns-clause-gates : goal.returns-clause-gates
returns-clause-gates c =
    let listed : c.loop-row.gates.items ≡ with_rows c.args.library.now.models (kind_test c.args.kind) 0 [] c.args.instances.now =
    all_listed c.args.library.now.models (kind_test c.args.kind) c.args.instances.now c.loop-row.row c.loop-row.gates.items c.loop-row.invariant (omega arith) in
    subst (λ (gates : List Gate). AreGatesAt (paths_of c.args.instances.now) gates (places_at c.args.library.now (kind_test c.args.kind) (paths_of c.args.instances.now))) (sym listed) (all_gates c.args.library.now c.args.instances.now c.requires.instances (kind_test c.args.kind))

pub returns-clause-few : goal.returns-clause-few
returns-clause-few c = few_gates c.args.library.now c.args.instances.now c.requires.instances c.requires.light c.args.kind c.loop-row.gates.items
    (all_listed c.args.library.now.models (kind_test c.args.kind) c.args.instances.now c.loop-row.row c.loop-row.gates.items c.loop-row.invariant (omega arith))
