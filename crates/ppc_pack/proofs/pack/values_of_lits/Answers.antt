use Rattle.std.proofs.Common.{arith}
use Rattle.list_laws.proofs.Members.{In-get_or}
use Rattle.ppc_pack.proofs.pack.values_of_lits.Goals as goal

pub lit_value-requires : goal.lit_value-requires
lit_value-requires c = c.requires _ (In-get_or c.args.lits.now c.loop-lit.lit-index (record { 0 = 0 }) (omega arith))
