use Rattle.blif_write.proofs.Common.{List, ℕ, ◌∷◌, ap, added_as, added_twice}
use Rattle.blif_write.proofs.words.add_word.Goals as goal

pub returns : goal.returns
returns g c =
    added_as (ap (λ (t : List ℕ). 32 ∷ t) c.bytes.ensures)
    (added_twice c.add_byte.ensures c.add_text.ensures)
