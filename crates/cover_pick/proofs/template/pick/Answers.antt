use Rattle.cover_pick.proofs.Lemmas.{label_of, FewestLeaves, IsServing, Rows, AreTimely, IsSupplied, roots_of, TemplateValue, rows_served, table_serving, template_once, light_or_too_much, too_much_answer, each_maps, each_least, ok_given}
use Rattle.cover_pick.proofs.template.pick.Goals as goal

serving : (c : goal.After-fewest_template) → IsServing FewestLeaves c.args.graph.now (label_of c.args.labels.now) c.args.table.now
serving c = table_serving c.args.graph.now c.len-count.ensures.normal c.args.table.now (label_of c.args.labels.now) c.requires.labels.labels c.requires.table

pub returns-clause-timely : goal.returns-clause-timely
returns-clause-timely c =
    ok_given c.fewest_template.result (IsSupplied (Rows c.args.table.now) c.args.graph.now (label_of c.args.labels.now))
    (λ (t : TemplateValue). AreTimely (Rows c.args.table.now) c.args.graph.now (label_of c.args.labels.now) (roots_of c.args.roots.now) t.luts) (serving c) c.fewest_template.ensures.timely

pub returns-clause-once : goal.returns-clause-once
returns-clause-once c = template_once (Rows c.args.table.now) c.args.graph.now (label_of c.args.labels.now) c.args.roots.now (serving c)

pub returns-clause-too_much : goal.returns-clause-too_much
returns-clause-too_much c =
    too_much_answer (Rows c.args.table.now) c.args.graph.now (label_of c.args.labels.now) c.args.roots.now (serving c) c.fewest_template.result c.fewest_template.ensures.template c.fewest_template.ensures.light

pub returns-clause-excluded : goal.returns-clause-excluded
returns-clause-excluded c = light_or_too_much (Rows c.args.table.now) c.args.graph.now (label_of c.args.labels.now) c.args.roots.now (serving c)

pub returns-clause-mapping : goal.returns-clause-mapping
returns-clause-mapping c t is k are =
    each_maps c.args.table.now c.args.graph.now (label_of c.args.labels.now) c.args.roots.now c.len-count.ensures.normal (serving c) c.requires.roots t is k
    (rows_served c.args.graph.now c.len-count.ensures.normal c.args.table.now (label_of c.args.labels.now) c.requires.labels.labels k are)

pub returns-clause-least : goal.returns-clause-least
returns-clause-least c t is k are =
    each_least c.args.table.now c.args.graph.now (label_of c.args.labels.now) c.args.roots.now c.len-count.ensures.normal (serving c) c.requires.roots t is k
    (rows_served c.args.graph.now c.len-count.ensures.normal c.args.table.now (label_of c.args.labels.now) c.requires.labels.labels k are)
