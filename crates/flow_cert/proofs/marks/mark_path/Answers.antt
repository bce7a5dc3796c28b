use Rattle.flow_cert.proofs.Common.{◌≡◌, ◌+◌, ◌<◌, ◌≤◌, [], ◌∷◌, ◌++◌, arith, ap, ◌∙◌, sym, subst, take, length, get_or, take_all, slice_get-get_or, In, In-get_or, In-get, take_get, PathValue, StepValue, HasTaken, AreTaken, AreMarkedTo}
use Rattle.flow_cert.proofs.MarkLemmas.{taken_sizes, taken, marked, taken_next, marked_next}
use Rattle.flow_cert.proofs.marks.mark_path.Goals as goal

pub take_node-requires-clause-marks : goal.take_node-requires-clause-marks
take_node-requires-clause-marks c =
    let e : c.deref-m-items.result.now ≡ c.args.path.now.nodes = c.deref-m-items.ensures.value ∙ ap (λ (p : PathValue). p.nodes) c.path.view_is in
    let m : get_or c.deref-m-items.result.now c.loop-m.m-index 0 ≡ get_or c.args.path.now.nodes c.loop-m.m-index 0 = ap (λ xs. get_or xs c.loop-m.m-index 0) e in
    let fit = c.requires.fit.each c.args.path.now _ (In-get c.args.step.now.paths c.args.place c.args.path.now c.requires.path) (In-get_or c.args.path.now.nodes c.loop-m.m-index 0 (subst (λ xs. c.loop-m.m-index < length xs) e c.loop-m-test.true)) in
    omega (arith, fit.1, c.loop-m.invariant.size)

pub take_node-requires-clause-met : goal.take_node-requires-clause-met
take_node-requires-clause-met c =
    let e : c.deref-m-items.result.now ≡ c.args.path.now.nodes = c.deref-m-items.ensures.value ∙ ap (λ (p : PathValue). p.nodes) c.path.view_is in
    let m : get_or c.deref-m-items.result.now c.loop-m.m-index 0 ≡ get_or c.args.path.now.nodes c.loop-m.m-index 0 = ap (λ xs. get_or xs c.loop-m.m-index 0) e in
    let fit = c.requires.fit.each c.args.path.now _ (In-get c.args.step.now.paths c.args.place c.args.path.now c.requires.path) (In-get_or c.args.path.now.nodes c.loop-m.m-index 0 (subst (λ xs. c.loop-m.m-index < length xs) e c.loop-m-test.true)) in
    omega (arith, fit.1, c.loop-m.invariant.room, c.requires.room)

pub loop-m-preserved : goal.loop-m-preserved
loop-m-preserved c =
    let e : c.deref-m-items.result.now ≡ c.args.path.now.nodes = c.deref-m-items.ensures.value ∙ ap (λ (p : PathValue). p.nodes) c.path.view_is in
    let x : get_or c.deref-m-items.result.now c.loop-m.m-index 0 ≡ get_or c.args.path.now.nodes c.loop-m.m-index 0 = ap (λ xs. get_or xs c.loop-m.m-index 0) e in
    let l : c.loop-m.m-index < length c.args.path.now.nodes = subst (λ xs. c.loop-m.m-index < length xs) e c.loop-m-test.true in
    let inside : In c.args.path.now.nodes (get_or c.args.path.now.nodes c.loop-m.m-index 0) = In-get_or c.args.path.now.nodes c.loop-m.m-index 0 l in
    let fit = c.requires.fit.each c.args.path.now _ (In-get c.args.step.now.paths c.args.place c.args.path.now c.requires.path) inside in
    let b : get_or c.args.path.now.nodes c.loop-m.m-index 0 < length c.args.marks.now.items = fit.1 in
    let size : length c.loop-m.marks.items ≡ length c.args.marks.now.items = c.loop-m.invariant.size in
    let room : length c.loop-m.met ≡ length c.args.met.now = c.loop-m.invariant.room in
    let same : length c.args.met.now ≡ length c.args.marks.now.items = c.requires.room in
    let more : take (c.loop-m.m-index + 1) c.args.path.now.nodes ≡ take c.loop-m.m-index c.args.path.now.nodes ++ get_or c.args.path.now.nodes c.loop-m.m-index 0 ∷ [] = take_get c.args.path.now.nodes c.loop-m.m-index _ (slice_get-get_or c.args.path.now.nodes c.loop-m.m-index 0 l) in
    let node : c.step.inside.node ≡ c.args.step.now.node = ap (λ (s : StepValue). s.node) c.step.view_is in
    let h : HasTaken c.args.step.now.node c.args.place (get_or c.args.path.now.nodes c.loop-m.m-index 0) c.loop-m.marks.items c.loop-m.met c.take_node.new.marks.items c.take_node.new.met =
    subst (λ y. HasTaken c.args.step.now.node c.args.place y c.loop-m.marks.items c.loop-m.met c.take_node.new.marks.items c.take_node.new.met) x
    (subst (λ y. HasTaken y c.args.place (get_or c.deref-m-items.result.now c.loop-m.m-index 0) c.loop-m.marks.items c.loop-m.met c.take_node.new.marks.items c.take_node.new.met) node c.take_node.ensures) in
    let sizes = taken_sizes _ _ _ _ _ _ _ h in
    record {
      size = sizes.0 ∙ size;
      room = sizes.1 ∙ room;
      taken = subst (λ ns. AreTaken c.args.step.now c.args.place ns c.take_node.new.met) (sym more)
          (taken c.args.step.now c.args.place (get_or c.args.path.now.nodes c.loop-m.m-index 0) c.args.path.now c.requires.path inside fit.0 (take c.loop-m.m-index c.args.path.now.nodes) c.loop-m.met c.loop-m.invariant.taken
          c.loop-m.marks.items c.take_node.new.marks.items c.take_node.new.met (omega arith) h);
      marked = λ old w. subst (λ ns. AreMarkedTo c.args.step.now c.args.place ns old c.take_node.new.marks.items) (sym more)
          (marked c.args.step.now c.args.place (get_or c.args.path.now.nodes c.loop-m.m-index 0) c.args.path.now c.requires.path inside fit.0 (take c.loop-m.m-index c.args.path.now.nodes) c.loop-m.met c.loop-m.invariant.taken
          old c.loop-m.marks.items (c.loop-m.invariant.marked old w) c.take_node.new.marks.items c.take_node.new.met (omega arith) h);
    }

pub returns-clause-taken : goal.returns-clause-taken
returns-clause-taken c =
    let e : c.deref-m-items.result.now ≡ c.args.path.now.nodes = c.deref-m-items.ensures.value ∙ ap (λ (p : PathValue). p.nodes) c.path.view_is in
    let all : take c.loop-m.m-index c.args.path.now.nodes ≡ c.args.path.now.nodes = take_all c.loop-m.m-index c.args.path.now.nodes (subst (λ xs. length xs ≤ c.loop-m.m-index) e c.loop-m-test.false) in
    taken_next c.args.step.now c.args.place c.args.path.now c.requires.path c.loop-m.met (subst (λ ns. AreTaken c.args.step.now c.args.place ns c.loop-m.met) all c.loop-m.invariant.taken)

pub returns-clause-marked : goal.returns-clause-marked
returns-clause-marked c = λ old w.
    let e : c.deref-m-items.result.now ≡ c.args.path.now.nodes = c.deref-m-items.ensures.value ∙ ap (λ (p : PathValue). p.nodes) c.path.view_is in
    let all : take c.loop-m.m-index c.args.path.now.nodes ≡ c.args.path.now.nodes = take_all c.loop-m.m-index c.args.path.now.nodes (subst (λ xs. length xs ≤ c.loop-m.m-index) e c.loop-m-test.false) in
    marked_next c.args.step.now c.args.place c.args.path.now c.requires.path old c.loop-m.marks.items (subst (λ ns. AreMarkedTo c.args.step.now c.args.place ns old c.loop-m.marks.items) all (c.loop-m.invariant.marked old w))
