use Rattle.blif_write.proofs.Lemmas.{ℕ, ◌≡◌, ◌<◌, ◌∷◌, [], List, length, get_or, ap, sym, arith, ◌∙◌, length-map, In-get_or, added_as, added_none, added_part, Naming, name_at}
use Rattle.blif_write.proofs.writing.add_regular.Goals as goal

pub bounds-names-inside-place : goal.bounds-names-inside-place
bounds-names-inside-place g c =
    c.names.invariant.0 (get_or c.names.inside.regular.now c.loop-place.place-index 0) (In-get_or c.names.inside.regular.now c.loop-place.place-index 0 (omega arith))

pub loop-place-init : goal.loop-place-init
loop-place-init g c = added_none g.O.Sink.seen c.args.writer.now

pub loop-place-preserved : goal.loop-place-preserved
loop-place-preserved g c =
    let i : ℕ = c.loop-place.place-index in
    let there : i < length c.names.inside.regular.now = omega arith in
    let within : get_or c.names.inside.regular.now i 0 < length c.names.inside.inputs.now = c.names.invariant.0 (get_or c.names.inside.regular.now i 0) (In-get_or c.names.inside.regular.now i 0 there) in
    let names : length c.args.names.now.regular ≡ length c.names.inside.regular.now = ap (λ (n : Naming). length n.regular) (sym c.names.view_is) ∙ length-map c.names.inside.regular.now (λ (k : ℕ). get_or c.names.inside.inputs.now k []) in
    let is = sym c.index-names-place.is ∙ name_at c.names.inside.inputs.now c.names.inside.regular.now i c.index-names-place.result there within c.index-names-place.is ∙ ap (λ (n : Naming). get_or n.regular i []) c.names.view_is in
    added_part (λ (w : List ℕ). 32 ∷ w) c.args.names.now.regular i [] (omega (arith, there, names)) c.loop-place.invariant (added_as (ap (λ (w : List ℕ). 32 ∷ w) is) c.add_word.ensures)
