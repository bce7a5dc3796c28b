use Rattle.flow_cert.proofs.Common.{◌≡◌, arith, ap, length, StepValue}
use Rattle.flow_cert.proofs.MarkLemmas.{marked_all}
use Rattle.flow_cert.proofs.marks.mark_shared.Goals as goal

pub returns-clause-marked : goal.returns-clause-marked
returns-clause-marked c =
    let e : length c.step.inside.paths.items ≡ length c.args.step.now.paths = ap (λ (s : StepValue). length s.paths) c.step.view_is in
    marked_all c.args.step.now c.loop-place.place c.args.marks.now.items c.loop-place.marks.items (omega (arith, c.loop-place-test.false, c.len-place-end.ensures, c.step.inside.paths.ok.0)) c.loop-place.invariant.marked
