use Rattle.run_text.proofs.Common.{arith, slice_get-get_or, In-get}
use Rattle.run_text.proofs.script_line.only.Goals as goal

pub bytes-requires : goal.bytes-requires
bytes-requires c = c.requires _ (In-get c.args.tokens.now 0 _ (slice_get-get_or c.args.tokens.now 0 _ (omega arith)))
