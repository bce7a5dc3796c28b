-- A text that goes to a sink through a buffer: some of it was put, and the rest waits.
use Rattle.std.specs.Prelude.{◌≡◌, ℕ, ◌<◌, List, ◌++◌, length, take, Option}
use Rattle.tl_io.specs.Content.{extended}

-- a text was added after what waited: a front of both was put, and the rest waits
pub record Adds (old : Option (List ℕ)) (waiting text : List ℕ) (new : Option (List ℕ)) (left : List ℕ) : Type 0 where
  pub sent : List ℕ
  pub put : new ≡ extended old sent
  pub rest : sent ++ left ≡ waiting ++ text

-- a prefix of what waited and the text was put, which is shorter than both, and no more will be
pub record Stops (old : Option (List ℕ)) (waiting text : List ℕ) (new : Option (List ℕ)) : Type 0 where
  pub count : ℕ
  pub within : count < length (waiting ++ text)
  pub put : new ≡ extended old (take count (waiting ++ text))
