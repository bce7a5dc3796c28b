use Rattle.cert_check.proofs.Common.{arith, path_text, added_item, added_none}
use Rattle.cert_check.proofs.written.add_paths.Goals as goal

pub loop-path-init : goal.loop-path-init
loop-path-init g c = added_none g.O.Sink.seen c.args.writer.now

pub loop-path-preserved : goal.loop-path-preserved
loop-path-preserved g c = added_item path_text c.args.paths.now c.loop-path.path-index c.path-item.result (omega arith) c.path-item.is c.loop-path.invariant c.add_path.ensures
