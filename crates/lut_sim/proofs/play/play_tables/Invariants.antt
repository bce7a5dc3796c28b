use Rattle.lut_sim.proofs.Common.{◌≡◌, drop, with_tables}
use Rattle.lut_sim.proofs.play.play_tables.Given as goal

abbrev pub invariant-loop-table : goal.invariant-loop-table
invariant-loop-table l = with_tables l.shape l.config l.values (drop l.table-index l.tables) ≡ with_tables l.shape l.config l.initial.values l.tables
