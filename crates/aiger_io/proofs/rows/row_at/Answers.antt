use Rattle.aiger_io.proofs.RowLemmas.{row_at, no_row}
use Rattle.aiger_io.proofs.rows.row_at.Goals as goal

pub returns : goal.returns
returns c = row_at c.args.rows.now c.args.place no_row c.requires
