use Rattle.spec_core.proofs.Lemmas.{List, Bool, ap, ◌∙◌, subst, FitsGraph, PackValue, ReadersValue, EvaluationValue, Belong, IsSweeping, IsSwept, Belong-idle, change_done}
use Rattle.spec_core.proofs.evaluation.Evaluation.change.Goals as goal

pub returns-clause-change : goal.returns-clause-change
returns-clause-change g c =
    let pack = c.sweep.ensures.pack ∙ ap (λ (e : EvaluationValue). e.pack) c.assign.ensures in
    let readers = c.sweep.ensures.readers ∙ ap (λ (e : EvaluationValue). e.readers) c.assign.ensures in
    let b = subst (λ (rs : ReadersValue). Belong c.args.self.now.pack rs c.sweep.new.self.now) readers (subst (λ (k : PackValue). Belong k c.sweep.new.self.readers c.sweep.new.self.now) pack c.sweep.ensures.together) in
    change_done c.args.self.now.pack c.args.self.now.readers c.args.assigns.now c.args.self.now.now c.sweep.new.self.now c.args.steps.now c.sweep.new.steps
    (Belong-idle c.args.self.now.pack c.args.self.now.readers c.args.self.now.now b.is b.normal b.read c.requires.idle) c.requires.idle c.requires.assigns
    (subst (λ (e : EvaluationValue). (old new p q : List Bool) → FitsGraph e.pack.graph p old → FitsGraph e.pack.graph q new → IsSweeping e.pack old new e.now c.args.steps.now c.args.steps.now → IsSwept e.pack old new c.sweep.new.self.now c.args.steps.now c.sweep.new.steps)
    c.assign.ensures c.sweep.ensures.swept)
