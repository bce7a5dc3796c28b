use Rattle.blif_write.proofs.Lemmas.{ap, arith, ◌∙◌, flat_map, take_all, Lut, added_as, added_none, added_part, line_text, cover_lines, tunable_table, tables_text}
use Rattle.blif_write.proofs.tables.add_tunable_tables.Goals as goal

pub loop-table-init : goal.loop-table-init
loop-table-init g c = added_none g.O.Sink.seen c.args.writer.now

pub loop-table-preserved : goal.loop-table-preserved
loop-table-preserved g c = added_part (λ (t : Lut). flat_map line_text (cover_lines (tunable_table c.args.names.now t))) c.args.tables.now c.loop-table.table-index c.table-item.result (omega arith) c.loop-table.invariant (added_as (ap (λ (t : Lut). flat_map line_text (cover_lines (tunable_table c.args.names.now t))) c.table-item.is) c.add_tunable_table.ensures)

pub returns : goal.returns
returns g c =
    added_as (ap (flat_map (λ (t : Lut). flat_map line_text (cover_lines (tunable_table c.args.names.now t)))) (take_all c.loop-table.table-index c.args.tables.now (omega arith)) ∙ tables_text (tunable_table c.args.names.now) c.args.tables.now) c.loop-table.invariant
