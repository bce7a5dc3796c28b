use Rattle.blif_flat.proofs.Lemmas.{get_or, slice_get-get_or, In-get, is_cover, places_at, paths_of, sym, subst, AreWritten, refl, [], written_next}
use Rattle.blif_flat.proofs.field.loops.written_covers.Goals as goal
use Rattle.blif_flat.specs.LoopFault.{none}

pub loop-number-init : goal.loop-number-init
loop-number-init c = record { places = []; at = refl; written = subst (AreWritten c.args.library.now []) (sym c.new-texts.ensures.items) none }

pub written_cover-requires-clause-here : goal.written_cover-requires-clause-here
written_cover-requires-clause-here c = c.requires.here (get_or c.args.numbers.now c.loop-number.number-index 0)
    (In-get c.args.numbers.now c.loop-number.number-index (get_or c.args.numbers.now c.loop-number.number-index 0) (slice_get-get_or c.args.numbers.now c.loop-number.number-index 0 c.loop-number-test.true))

pub loop-number-preserved : goal.loop-number-preserved
loop-number-preserved c = written_next c.args.library.now (places_at c.args.library.now is_cover (paths_of c.args.instances.now)) c.args.numbers.now c.loop-number.number-index 0 c.loop-number.texts.items c.push.new.self.items
    c.in_ok-text.text c.loop-number-test.true c.loop-number.invariant c.in_ok-text.ensures c.in_ok-push.ensures.items
