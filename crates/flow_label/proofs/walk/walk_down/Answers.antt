use Rattle.flow_label.proofs.Lemmas.{◌≡◌, ◌+◌, arith, length, net_at, walk_all, uppers_short}
use Rattle.flow_label.proofs.walk.walk_down.Goals as goal

pub loop-place-preserved : goal.loop-place-preserved
loop-place-preserved c = record {
  walked = c.in_ok-read_at.ensures.walked;
  size = c.in_ok-read_at.ensures.room;
  short = uppers_short (net_at c.args.graph.now c.args.labels.now c.args.n c.args.height c.read_at.new.walk.readers) c.read_at.new.walk.uppers.items c.read_at.new.walk.ends.items (c.loop-place.place + 1) c.in_ok-read_at.ensures.walked;
}

pub returns-clause-readers : goal.returns-clause-readers
returns-clause-readers c =
    let q : c.loop-place.walk.uppers.len ≡ length c.loop-place.walk.uppers.items = c.loop-place.walk.uppers.ok.0 in
    walk_all (net_at c.args.graph.now c.args.labels.now c.args.n c.args.height c.loop-place.walk.readers) c.loop-place.walk.uppers.items c.loop-place.walk.ends.items c.loop-place.place c.loop-place.invariant.walked (omega arith)
