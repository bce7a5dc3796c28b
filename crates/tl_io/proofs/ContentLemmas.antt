-- What is told of bytes, and texts that come behind them.
use Rattle.tl_io.proofs.Common.{◌≡◌, List, [], ◌++◌, Option, None, Some, refl, ap, append_assoc, append-nil, extended}

-- an empty text changes nothing
pub extended_none : {V : Type 0} (told : Option (List V)) → extended told [] ≡ told
extended_none None = refl
extended_none (Some bytes) = ap Some (append-nil bytes)

-- one text and then another are both in a row
pub extended_twice : {V : Type 0} (told : Option (List V)) (a b : List V) → extended (extended told a) b ≡ extended told (a ++ b)
extended_twice None a b = refl
extended_twice (Some bytes) a b = ap Some (append_assoc bytes a b)
