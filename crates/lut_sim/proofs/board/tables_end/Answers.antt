use Rattle.lut_sim.proofs.Common.{◌≡◌, ◌-◌, arith, ap, length, get_or, Lut}
use Rattle.lut_sim.proofs.RoomLemmas.{last_greatest}
use Rattle.lut_sim.proofs.board.tables_end.Goals as goal

pub returns-in-Some : goal.returns-in-Some
returns-in-Some c = λ t i.
    let last : c.in-Some.table.now ≡ get_or c.args.tables.now (length c.args.tables.now - 1) c.in-Some.table.now = c.in-Some.ensures.item.1 in
    omega (arith, ap (λ (u : Lut). u.lit.0) last, last_greatest c.args.tables.now t c.in-Some.table.now c.requires i)
