use Rattle.aig_build.proofs.Lemmas.{◌≤◌, length, refl, rules, Aig, first_and, balanced_and, Literals, rows_made, length-Extends, balanced-grows, full_weaker}
use Rattle.aig_build.proofs.cover.make_into.Goals as goal

pub returns-in_err-make_rows-clause-full : goal.returns-in_err-make_rows-clause-full
returns-in_err-make_rows-clause-full c =
    let g : Aig = c.args.graph.now in
    let rows : Literals = rows_made (first_and g) g.pairs c.args.cover.now.rows c.args.inputs.now in
    let l : length rows.pairs ≤ length (balanced_and (first_and g) rows.pairs rows.lits).pairs = length-Extends rows.pairs (balanced_and (first_and g) rows.pairs rows.lits).pairs (balanced-grows (first_and g) (length rows.lits) rows.pairs rows.lits) in
    full_weaker g.max g.max _ _ refl l (search rules)
