use Rattle.blif_flat.proofs.Lemmas.{map, sym, subst, ◌∙◌, OutPort, paths_of, is_cover, places_at, IsFound, IsNumberLoop, all_starts, AreWrittenAt, walked_range, walked_roots, walked_clean, loop_inside, loop_told}
use Rattle.blif_flat.proofs.field.loops.cover_order.Goals as goal

pub walk_covers-requires-clause-range : goal.walk_covers-requires-clause-range
walk_covers-requires-clause-range c =
    walked_range c.args.library.now c.requires.driven (paths_of c.args.instances.now) (map (λ (o : OutPort). o.net) c.args.outputs.now) c.args.covers.now c.args.latches.now c.requires.walked

pub walk_covers-requires-clause-here : goal.walk_covers-requires-clause-here
walk_covers-requires-clause-here c =
    walked_roots c.args.library.now c.requires.driven (paths_of c.args.instances.now) (map (λ (o : OutPort). o.net) c.args.outputs.now) c.args.covers.now c.args.latches.now c.requires.walked
    c.deref.result.now (c.deref.ensures.value ∙ c.in_ok-roots.ensures)

pub returns-in-Order-clause-clean : goal.returns-in-Order-clause-clean
returns-in-Order-clause-clean c =
    walked_clean c.args.library.now c.requires.driven (paths_of c.args.instances.now) (map (λ (o : OutPort). o.net) c.args.outputs.now) c.args.covers.now c.args.latches.now c.requires.walked
    c.deref.result.now c.in-Order.order.items (c.deref.ensures.value ∙ c.in_ok-roots.ensures) (subst (IsFound c.args.covers.now c.deref.result.now) c.in-Order.is c.in_ok-order.ensures)

pub written_covers-requires-clause-here : goal.written_covers-requires-clause-here
written_covers-requires-clause-here c =
    loop_inside c.args.library.now c.requires.driven (paths_of c.args.instances.now) (map (λ (o : OutPort). o.net) c.args.outputs.now) c.args.covers.now c.args.latches.now c.requires.walked c.args.gates.now c.requires.gates
    c.deref.result.now c.deref-in-Loop.result.now (c.deref.ensures.value ∙ c.in_ok-roots.ensures)
    (subst (IsNumberLoop c.args.covers.now (all_starts c.args.covers.now c.deref.result.now)) (sym c.deref-in-Loop.ensures.value) (subst (IsFound c.args.covers.now c.deref.result.now) c.in-Loop.is c.in_ok-order.ensures))

pub returns-clause-err : goal.returns-clause-err
returns-clause-err c =
    loop_told c.args.library.now c.requires.driven (paths_of c.args.instances.now) (map (λ (o : OutPort). o.net) c.args.outputs.now) c.args.covers.now c.args.latches.now c.requires.walked
    c.deref.result.now c.deref-in-Loop.result.now c.make.result (c.deref.ensures.value ∙ c.in_ok-roots.ensures)
    (subst (IsNumberLoop c.args.covers.now (all_starts c.args.covers.now c.deref.result.now)) (sym c.deref-in-Loop.ensures.value) (subst (IsFound c.args.covers.now c.deref.result.now) c.in-Loop.is c.in_ok-order.ensures))
    (subst (AreWrittenAt c.args.library.now (places_at c.args.library.now is_cover (paths_of c.args.instances.now)) c.deref-in-Loop.result.now) (sym c.make.ensures) c.in_ok-texts-in-Loop.ensures)
