-- What a reader of one field gives, where a reader of parts stands, and how far a text that is added part by part has been added.
use Rattle.std.specs.Prelude.{◌≡◌, List, ◌++◌, ℕ, Result, Ok, Err}
use Rattle.ppc_file.specs.declared.pack_err.PackErr.{PackErr}
use Rattle.ppc_file.specs.Fronts.{Front, IsSound, spelling}
use Rattle.tl_io.specs.Sink.{SinkSeen}
use Rattle.tl_piece.specs.Added.{IsAdded}
use Rattle.tl_piece.specs.declared.writer.Writer.{Writer}

-- the field's value and what is left behind it, or the field's refusal
abbrev pub Gives : {X Y : Type 0} → (X → Y) → Result X PackErr → Result Y PackErr → Type 0
Gives view (Ok x) field = field ≡ Ok (view x)
Gives view (Err e) field = field ≡ Err e

-- a front was read, and this is left
pub record StandsAt (bytes : List ℕ) (front : Front) (rest : List ℕ) : Type 0 where
  pub spelled : bytes ≡ spelling front ++ rest
  pub sound : IsSound front

-- a text that is added to a writer part by part: a front of it was added, and the rest is left
pub record Added {O : Type 0} (seen : O → SinkSeen) (old : Writer O) (whole : List ℕ) (new : Writer O) (left : List ℕ) : Type 0 where
  pub front : List ℕ
  pub added : IsAdded seen old front new
  pub rest : front ++ left ≡ whole
