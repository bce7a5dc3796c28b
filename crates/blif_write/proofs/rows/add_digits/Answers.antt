use Rattle.blif_write.proofs.Lemmas.{◌≡◌, ℕ, [], ◌∷◌, arith, ap, ◌∙◌, map, cell_character, added_as, added_none, added_next, digit_cells, digit_text, digits_are}
use Rattle.blif_write.proofs.rows.add_digits.Goals as goal

pub loop-place-init : goal.loop-place-init
loop-place-init g c = added_none g.O.Sink.seen c.args.writer.now

pub loop-place-preserved : goal.loop-place-preserved
loop-place-preserved g c =
    let is : c.digit_character.result ∷ [] ≡ digit_text c.args.v c.loop-place.place = ap (λ (b : ℕ). b ∷ []) c.digit_character.ensures in
    added_next (digit_text c.args.v) 0 c.loop-place.place c.loop-place.place (omega arith) c.loop-place.invariant (added_as is c.add_byte.ensures)

pub returns : goal.returns
returns g c =
    let all : c.loop-place.place ≡ c.args.leaves = omega arith in
    added_as (digits_are c.loop-place.place c.args.v ∙ ap (λ (n : ℕ). map cell_character (digit_cells n c.args.v)) all) c.loop-place.invariant
