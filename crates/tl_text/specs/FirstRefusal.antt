-- The first line of a text that has a refusal, where lines are told by their places.
use Rattle.std.specs.Prelude.{◌≡◌, ℕ, ◌<◌, Option, Some, None}

pub record IsFirst {E : Type 0} (refusal_at : ℕ → Option E) (e : E) : Type 0 where
  pub place : ℕ
  pub is : refusal_at place ≡ Some e
  pub none_before : (i : ℕ) → i < place → refusal_at i ≡ None
