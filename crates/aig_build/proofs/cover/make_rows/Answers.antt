use Rattle.aig_build.proofs.Lemmas.{◌≡◌, ◌≤◌, ◌∙◌, ap, drop, length, rules, subst, List, RowValue, Lit, Aig, first_and, Answer, with_pairs, Extends, Literals, row_made, rows_made, rows_onto, full_weaker, rows_alone, rows_done, AreLits-more, AreLits-next, row_made-grows, rows_onto-next, rows_onto-row_length, with_pairs-again}
use Rattle.aig_build.proofs.cover.make_rows.Goals as goal

pub returns-in_err-lit-clause-full : goal.returns-in_err-lit-clause-full
returns-in_err-lit-clause-full c =
    let g : Aig = c.args.graph.now in
    let g0 : Aig = c.loop-row.graph in
    let row : RowValue = c.row-item.result in
    let m : g0.max ≡ g.max = ap (λ (h : Aig). h.max) c.loop-row.invariant.graph in
    let l : length (row_made (first_and g0) g0.pairs row.cells c.args.inputs.now).pairs ≤ length (rows_onto (first_and g0) g0.pairs c.loop-row.lits.items (drop c.loop-row.row-index c.args.rows.now) c.args.inputs.now).pairs =
    rows_onto-row_length (first_and g0) g0.pairs c.loop-row.lits.items c.args.rows.now c.args.inputs.now c.loop-row.row-index row c.loop-row-test.true c.row-item.is in
    let made : rows_onto (first_and g0) g0.pairs c.loop-row.lits.items (drop c.loop-row.row-index c.args.rows.now) c.args.inputs.now ≡ rows_made (first_and g) g.pairs c.args.rows.now c.args.inputs.now =
    c.loop-row.invariant.made ∙ rows_alone (first_and g) g.pairs c.args.rows.now c.args.inputs.now in
    full_weaker g0.max g.max _ _ m (subst (λ (s : Literals). length (row_made (first_and g0) g0.pairs row.cells c.args.inputs.now).pairs ≤ length s.pairs) made l) (search rules)

pub loop-row-preserved : goal.loop-row-preserved
loop-row-preserved c =
    let g0 : Aig = c.loop-row.graph in
    let g1 : Aig = c.make_row.new.graph in
    let row : RowValue = c.row-item.result in
    let inputs : List Lit = c.args.inputs.now in
    let m : Answer = row_made (first_and g0) g0.pairs row.cells inputs in
    let grows : Extends g0.pairs m.pairs = row_made-grows (first_and g0) g0.pairs row.cells inputs in
    rw c.in_ok-push.ensures.items (record {
      graph = with_pairs-again c.args.graph.now g0 g1 g0.pairs m.pairs c.loop-row.invariant.graph c.in_ok-lit.ensures.pairs;
      made = rows_onto-next g0 g1 c.loop-row.lits.items c.args.rows.now inputs c.loop-row.row-index row c.in_ok-lit.lit.0 c.complement.result c.loop-row-test.true c.row-item.is c.in_ok-lit.ensures.pairs c.in_ok-lit.ensures.lit c.complement.ensures
          ∙ c.loop-row.invariant.made;
      members = AreLits-more g0 g1 m.pairs inputs grows c.in_ok-lit.ensures.pairs c.loop-row.invariant.members;
      lits = AreLits-next g0 g1 m.pairs c.loop-row.lits.items c.in_ok-lit.lit.0 c.complement.result grows c.in_ok-lit.ensures.pairs c.loop-row.invariant.lits c.in_ok-lit.ensures.is_lit c.complement.ensures;
    })

pub returns-clause-lits : goal.returns-clause-lits
returns-clause-lits c =
    let g : Aig = c.args.graph.now in
    ap (λ (ls : Literals). ls.lits)
    (rows_done (first_and g) g.pairs (first_and c.loop-row.graph) c.loop-row.graph.pairs c.loop-row.lits.items c.args.rows.now c.args.inputs.now c.loop-row.row-index c.loop-row-test.false c.loop-row.invariant.made)

pub returns-clause-pairs : goal.returns-clause-pairs
returns-clause-pairs c =
    let g : Aig = c.args.graph.now in
    c.loop-row.invariant.graph
    ∙ ap (λ (ls : Literals). with_pairs g ls.pairs)
    (rows_done (first_and g) g.pairs (first_and c.loop-row.graph) c.loop-row.graph.pairs c.loop-row.lits.items c.args.rows.now c.args.inputs.now c.loop-row.row-index c.loop-row-test.false c.loop-row.invariant.made)
