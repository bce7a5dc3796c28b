use Rattle.tl_io.proofs.Common.{arith, ◌∙◌, length, ◌≤◌, NAME_ROOM}
use Rattle.tl_io.proofs.Takes.{take_front_of, take_capped}
use Rattle.tl_io.proofs.told_name.ToldName.set.Goals as goal

pub returns : goal.returns
returns c =
    let short : c.min-len.result ≤ length c.args.name.now = omega (arith, c.min-len.ensures) in
    take_front_of _ c.args.name.now _ _ c.copy_from_slice.ensures.after short ∙ take_capped _ NAME_ROOM c.args.name.now c.min-len.ensures
