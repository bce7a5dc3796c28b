use Rattle.cert_check.proofs.Common.{take, flat_map, IsAdded, path_text}
use Rattle.cert_check.proofs.written.add_paths.Given as goal

abbrev pub invariant-loop-path : goal.invariant-loop-path
invariant-loop-path g l = IsAdded g.O.Sink.seen l.fn.writer (flat_map path_text (take l.path-index l.paths)) l.writer
