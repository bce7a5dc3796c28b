-- What a sink of bytes means, and what it is to put a text there.
use Rattle.std.specs.Prelude.{◌≡◌, ℕ, List, Option, Result}
use Rattle.std.specs.Borrow.{GName}
use Rattle.tl_io.specs.Causes.{HasCause}
use Rattle.tl_io.specs.Content.{Puts}
use Rattle.tl_io.specs.Shelf.{ShelfSeen}

-- everything that a sink means
pub record SinkSeen : Type 0 where
  -- the bytes so far, where they are told
  pub bytes : Option (List ℕ)
  pub faults : ℕ
  -- the borrow of a shelf that it writes through, where it does so: it stays, so that the shelf is known once the borrow is over
  pub through : Option GName
  -- what stands behind it: for a sink over a shelf all that this shelf means apart from the file being written and the
  -- count of write faults, as its other files; else no shelf, and no file
  pub others : ShelfSeen

-- a text was put, or after an error a shorter prefix of it, and the count of faults rose; what stands behind the sink stays
pub record IsPut {E : Type 0} (old : SinkSeen) (text : List ℕ) (new : SinkSeen) (result : Result Unit E) : Type 0 where
  pub cause : HasCause old.faults new.faults result
  pub grown : Puts old.bytes new.bytes text result
  pub through : new.through ≡ old.through
  pub others : new.others ≡ old.others
