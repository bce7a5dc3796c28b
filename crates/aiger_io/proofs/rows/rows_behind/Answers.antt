use Rattle.aiger_io.proofs.Lemmas.{◌-◌, length, arith, rows_cut}
use Rattle.aiger_io.proofs.rows.rows_behind.Goals as goal

pub returns-clause-rows : goal.returns-clause-rows
returns-clause-rows c = rows_cut c.args.rows.now c.args.count (length c.args.rows.now - c.args.count) (omega arith)
