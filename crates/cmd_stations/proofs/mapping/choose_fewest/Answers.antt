use Rattle.cmd_stations.proofs.Lemmas.{roots_of, IsLimit, label_of, IsTooMuch, IsUnchosen, cuts, work, IsGraphSettled, FewestLeaves, Rows, refl, passed_stop, passed_settled, settled_anyway, least_mapping, limit_settled, one_of_cuts, supply_settled, work_is}
use Rattle.cut_enum.specs.Refusals.{refusal_of as cut_refusal}
use Rattle.cover_pick.specs.Refusals.{refusal_of as pick_refusal}
use Rattle.cmd_stations.specs.Mapped as mapped
use Rattle.cmd_stations.proofs.mapping.choose_fewest.Goals as goal

pub returns-in_err-table-clause-err : goal.returns-in_err-table-clause-err
returns-in_err-table-clause-err c =
    passed_stop cut_refusal (IsLimit c.args.graph.now c.args.k) (IsUnchosen FewestLeaves c.args.graph.now c.args.k c.args.roots.now) c.from_residual.result c.in_err-table.field-0.0 c.in_err-table.ensures.err c.from_residual.ensures.1
    (λ r told limit. cuts refl c.in_err-table.field-0.0 limit told)

pub returns-in_err-table-clause-settled : goal.returns-in_err-table-clause-settled
returns-in_err-table-clause-settled c =
    passed_settled cut_refusal (IsLimit c.args.graph.now c.args.k) (IsGraphSettled FewestLeaves c.args.graph.now c.args.k c.args.roots.now) c.from_residual.result c.in_err-table.field-0.0 c.in_err-table.ensures.err c.from_residual.ensures.1
    (λ r told limit. limit_settled c.args.graph.now c.args.k c.args.roots.now c.enumerate.ensures.once c.enumerate.ensures.excluded c.in_err-table.field-0.0 limit)

pub returns-in_err-template-clause-err : goal.returns-in_err-template-clause-err
returns-in_err-template-clause-err c =
    passed_stop pick_refusal (λ _. IsTooMuch (Rows c.in_ok-table.table) c.args.graph.now (label_of c.in_ok-labels.labels) (roots_of c.args.roots.now)) (IsUnchosen FewestLeaves c.args.graph.now c.args.k c.args.roots.now)
    c.from_residual-in_err-template.result c.in_err-template.field-0.0 c.in_err-template.ensures.work c.from_residual-in_err-template.ensures.1
    (λ r told much. work
    (record {
      label = label_of c.in_ok-labels.labels;
      supply = Rows c.in_ok-table.table;
      has = mapped.HasSupply.by_cuts refl c.in_ok-table.table c.in_ok-labels.labels (record { rows_are = c.in_ok-table.ensures.ok; labels_are = c.in_ok-labels.ensures.ok }) refl refl;
      too_much = much;
    })
    (work_is c.in_err-template.field-0.0 r told))

pub returns-in_err-template-clause-settled : goal.returns-in_err-template-clause-settled
returns-in_err-template-clause-settled c =
    settled_anyway c.from_residual-in_err-template.result
    (supply_settled FewestLeaves c.args.graph.now c.args.k c.args.roots.now (label_of c.in_ok-labels.labels) (Rows c.in_ok-table.table)
    (one_of_cuts c.args.graph.now c.args.k c.in_ok-table.table c.in_ok-table.ensures.ok c.enumerate.ensures.one_table c.in_ok-labels.labels c.in_ok-labels.ensures.ok c.labels.ensures.once)
    (λ rule e limit. c.enumerate.ensures.excluded e c.in_ok-table.table limit c.in_ok-table.ensures.ok) c.pick-picked.ensures.once c.pick-picked.ensures.excluded
    c.requires.least (λ t is. c.pick-picked.ensures.mapping t is c.args.k c.in_ok-table.ensures.ok) (λ t is. c.pick-picked.ensures.least t is c.args.k c.in_ok-table.ensures.ok))

pub returns-clause-chosen : goal.returns-clause-chosen
returns-clause-chosen c = record {
  label = label_of c.in_ok-labels.labels;
  supply = Rows c.in_ok-table.table;
  has = mapped.HasSupply.by_cuts refl c.in_ok-table.table c.in_ok-labels.labels (record { rows_are = c.in_ok-table.ensures.ok; labels_are = c.in_ok-labels.ensures.ok }) refl refl;
  chosen = c.in_ok-template.ensures.template;
  light = c.in_ok-template.ensures.light;
}

pub returns-clause-settled : goal.returns-clause-settled
returns-clause-settled c =
    supply_settled FewestLeaves c.args.graph.now c.args.k c.args.roots.now (label_of c.in_ok-labels.labels) (Rows c.in_ok-table.table)
    (one_of_cuts c.args.graph.now c.args.k c.in_ok-table.table c.in_ok-table.ensures.ok c.enumerate.ensures.one_table c.in_ok-labels.labels c.in_ok-labels.ensures.ok c.labels.ensures.once)
    (λ rule e limit. c.enumerate.ensures.excluded e c.in_ok-table.table limit c.in_ok-table.ensures.ok) c.pick-picked.ensures.once c.pick-picked.ensures.excluded
    c.requires.least (λ t is. c.pick-picked.ensures.mapping t is c.args.k c.in_ok-table.ensures.ok) (λ t is. c.pick-picked.ensures.least t is c.args.k c.in_ok-table.ensures.ok)

pub returns-clause-least : goal.returns-clause-least
returns-clause-least c =
    let t = c.in_ok-template.template in
    let is = c.in_ok-template.ensures.template in
    least_mapping c.args.graph.now c.args.k c.args.roots.now t c.requires.least (c.pick-picked.ensures.mapping t is c.args.k c.in_ok-table.ensures.ok) (c.pick-picked.ensures.least t is c.args.k c.in_ok-table.ensures.ok)
