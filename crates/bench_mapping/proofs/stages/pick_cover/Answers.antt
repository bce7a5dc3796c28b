use Rattle.cover_pick.specs.Rounds.{Rows}
use Rattle.bench_mapping.proofs.stages.pick_cover.Goals as goal

pub returns-clause-mapping : goal.returns-clause-mapping
returns-clause-mapping c = c.in-Ok.ensures.mapping c.in-Ok.template c.in-Ok.ensures.template c.args.k c.in_ok-table.ensures

pub returns-clause-light : goal.returns-clause-light
returns-clause-light c = record { supply = Rows c.in_ok-table.table; light = c.in-Ok.ensures.light }
