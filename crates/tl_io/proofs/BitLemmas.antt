-- Bits stay as many when some of them are written.
use Rattle.std.proofs.Common.{◌≡◌, List, [], ◌∷◌, length, Bool, refl, ◌∙◌, slice_set}
use Rattle.list_laws.proofs.Places.{set_length}
use Rattle.tl_io.specs.declared.Write.{Write}
use Rattle.tl_io.specs.Writes.{written}

pub length-written : (writes : List Write) (config : List Bool) → length (written config writes) ≡ length config
length-written [] config = refl
length-written (w ∷ ws) config = length-written ws (slice_set config w.address w.bit) ∙ set_length config w.address w.bit
