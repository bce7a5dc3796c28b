use Rattle.cover_pick.proofs.Lemmas.{FewestLeaves, label_of, lits_of, Rows, table_serving, fewest_plan, serving_seen, are_picked, can_make}
use Rattle.cover_pick.proofs.template.fewest_tables.Goals as goal

pub cuts_by-requires-clause-can : goal.cuts_by-requires-clause-can
cuts_by-requires-clause-can c = record {
  serving = serving_seen c.args.graph.now c.args.table.now c.rows.result.now c.args.labels.now.labels c.node_labels-labels.result.now
      (table_serving c.args.graph.now c.len-count.ensures.normal c.args.table.now (label_of c.args.labels.now) c.requires.labels.labels c.requires.table) c.rows.ensures c.node_labels-labels.ensures;
  roots = c.requires.roots;
}

pub apart_tables-requires : goal.apart_tables-requires
apart_tables-requires c =
    let serving = table_serving c.args.graph.now c.len-count.ensures.normal c.args.table.now (label_of c.args.labels.now) c.requires.labels.labels c.requires.table in
    can_make FewestLeaves _ _ c.in_ok-cuts.cuts (record { serving = serving_seen _ _ _ _ _ serving c.rows.ensures c.node_labels-labels.ensures; roots = c.requires.roots }) c.in_ok-cuts.ensures

pub returns : goal.returns
returns c =
    let g = c.args.graph.now in
    let roots = lits_of c.args.roots.now in
    let serving = table_serving g c.len-count.ensures.normal c.args.table.now (label_of c.args.labels.now) c.requires.labels.labels c.requires.table in
    let has = fewest_plan g c.args.table.now c.rows.result.now c.args.labels.now.labels c.node_labels-labels.result.now roots c.in_ok-cuts.cuts serving c.rows.ensures c.node_labels-labels.ensures c.in_ok-cuts.ensures.plan in
    are_picked (Rows c.args.table.now) g (label_of c.args.labels.now) roots c.in_ok-cuts.cuts has c.requires.roots c.apart_tables.result c.apart_tables.ensures.ok c.apart_tables.ensures.light c.apart_tables.ensures.err
