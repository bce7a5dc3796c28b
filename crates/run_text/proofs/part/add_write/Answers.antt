use Rattle.run_text.proofs.Common.{ℕ, [], ◌∷◌, ap, added_as, added_twice}
use Rattle.run_text.proofs.part.add_write.Goals as goal

pub returns : goal.returns
returns g c = added_twice c.add_byte.ensures (added_twice c.add_number.ensures (added_as (ap (λ (b : ℕ). 61 ∷ b ∷ []) c.digit.ensures) c.add_text.ensures))
