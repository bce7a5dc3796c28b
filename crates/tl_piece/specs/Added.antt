-- A text that is added to a writer: it goes to a sink through a buffer, until a put fails.
use Rattle.std.specs.Prelude.{◌≡◌, ℕ, ◌≤◌, true, false, List, [], Result, is_err}
use Rattle.std.specs.Borrow.{MutBor}
use Rattle.tl_io.specs.Causes.{Rose}
use Rattle.tl_io.specs.Sink.{SinkSeen, IsPut}
use Rattle.tl_piece.specs.Pieces.{Adds, Stops}
use Rattle.tl_piece.specs.declared.writer.Writer.{Writer}

-- a writer over a lent sink, to which nothing was added so far
pub record IsNew {O : Type 0} (out : MutBor O) (new : Writer O) : Type 0 where
  pub name : new.out.ghost_name ≡ out.ghost_name
  pub sink : new.out.now ≡ out.now
  pub empty : new.piece.now ≡ []
  pub whole : new.failed ≡ false

-- what becomes of the bytes of a text that is added
pub data Grows {O : Type 0} (seen : O → SinkSeen) (old : Writer O) (text : List ℕ) (new : Writer O) : Type 0 where
  -- a front of what waited and the text was put, and the rest waits
  waits : old.failed ≡ false → new.failed ≡ false → Adds (seen old.out.now).bytes old.piece.now text (seen new.out.now).bytes new.piece.now → Grows seen old text new
  -- a put failed: the count of faults rose, and a prefix of what waited and the text was put, not all of it
  cut : old.failed ≡ false → new.failed ≡ true → Rose (seen old.out.now).faults (seen new.out.now).faults
      → Stops (seen old.out.now).bytes old.piece.now text (seen new.out.now).bytes → Grows seen old text new
  -- a put had failed before: nothing more is put
  stays : old.failed ≡ true → new.failed ≡ true → (seen new.out.now).bytes ≡ (seen old.out.now).bytes → Grows seen old text new

-- a text was added; what stands behind the sink stays
pub record IsAdded {O : Type 0} (seen : O → SinkSeen) (old : Writer O) (text : List ℕ) (new : Writer O) : Type 0 where
  pub name : new.out.ghost_name ≡ old.out.ghost_name
  pub grows : Grows seen old text new
  pub later : (seen old.out.now).faults ≤ (seen new.out.now).faults
  pub through : (seen new.out.now).through ≡ (seen old.out.now).through
  pub others : (seen new.out.now).others ≡ (seen old.out.now).others

-- what waited was put, or after an error a shorter prefix of it; where a put had failed before, that is the error
pub record IsFinished {O E : Type 0} (seen : O → SinkSeen) (old new : Writer O) (result : Result Unit E) : Type 0 where
  pub name : new.out.ghost_name ≡ old.out.ghost_name
  pub put : old.failed ≡ false → IsPut (seen old.out.now) old.piece.now (seen new.out.now) result
  pub failed : old.failed ≡ true → (is_err result ≡ true) × (new.out.now ≡ old.out.now)
