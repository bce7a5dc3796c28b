use Rattle.cert_check.proofs.Lemmas.{◌≡◌, length, arith, In-get_or, stamped_more}
use Rattle.cert_check.proofs.sharing.stamp.Goals as goal

pub index_mut-requires : goal.index_mut-requires
index_mut-requires c =
    let h = c.requires _ (In-get_or c.args.nodes.now c.loop-m.m-index 0 c.loop-m-test.true) in
    let k = c.loop-m.invariant.size in
    let j : c.loop-m.stamps.len ≡ length c.loop-m.stamps.items = c.loop-m.stamps.ok.0 in omega arith

pub loop-m-preserved : goal.loop-m-preserved
loop-m-preserved c = stamped_more c.args.stamps.now.items c.args.n c.args.nodes.now c.loop-m.m-index c.loop-m.stamps.items c.requires c.loop-m-test.true c.loop-m.invariant
