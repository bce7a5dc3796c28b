use Rattle.cover_pick.proofs.Lemmas.{label_at, low_in, Sets, Supply, HaveOneMaking, AreTimely, IsSupplied, roots_of, TemplateValue, template_once, light_or_too_much, too_much_answer, sets_good, ok_given}
use Rattle.cover_pick.proofs.template.pick_compact.Goals as goal

one : (c : goal.After-compact_template) → HaveOneMaking c.args.graph.now c.args.k (label_at c.args.labels.now) (low_in c.args.lows.now)
one c = record { heights = c.requires.labels; once = c.set_laws.ensures.once; serves = c.set_laws.ensures.serves }

abbrev supply : goal.After-compact_template → Supply
supply c = Sets c.args.k (low_in c.args.lows.now)

pub returns-clause-timely : goal.returns-clause-timely
returns-clause-timely c =
    ok_given c.compact_template.result (IsSupplied (supply c) c.args.graph.now (label_at c.args.labels.now))
    (λ (t : TemplateValue). AreTimely (supply c) c.args.graph.now (label_at c.args.labels.now) (roots_of c.args.roots.now) t.luts) (one c) c.compact_template.ensures.timely

pub returns-clause-once : goal.returns-clause-once
returns-clause-once c = template_once (supply c) c.args.graph.now (label_at c.args.labels.now) c.args.roots.now (one c)

pub returns-clause-too_much : goal.returns-clause-too_much
returns-clause-too_much c =
    too_much_answer (supply c) c.args.graph.now (label_at c.args.labels.now) c.args.roots.now (one c) c.compact_template.result c.compact_template.ensures.template c.compact_template.ensures.light

pub returns-clause-excluded : goal.returns-clause-excluded
returns-clause-excluded c = light_or_too_much (supply c) c.args.graph.now (label_at c.args.labels.now) c.args.roots.now (one c)

pub returns-clause-mapping : goal.returns-clause-mapping
returns-clause-mapping c t is = (sets_good c.args.k (low_in c.args.lows.now) c.args.graph.now (label_at c.args.labels.now) c.args.roots.now c.len-count.ensures.normal (one c) c.requires.roots t is).maps

pub returns-clause-least : goal.returns-clause-least
returns-clause-least c t is = (sets_good c.args.k (low_in c.args.lows.now) c.args.graph.now (label_at c.args.labels.now) c.args.roots.now c.len-count.ensures.normal (one c) c.requires.roots t is).least
