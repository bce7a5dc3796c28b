use Rattle.cert_check.proofs.Common.{take, flat_map, IsAdded, step_text}
use Rattle.cert_check.proofs.written.add_steps.Given as goal

abbrev pub invariant-loop-step : goal.invariant-loop-step
invariant-loop-step g l = IsAdded g.O.Sink.seen l.fn.writer (flat_map step_text (take l.step-index l.steps)) l.writer
