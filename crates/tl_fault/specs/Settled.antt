-- That what is read has one answer: a value or a refusal, not both, and only one.
use Rattle.std.specs.Prelude.{◌≡◌}

-- it is a value, or it is refused
pub data HasAnswer {V E : Type 0} (Is : V → Type 0) (IsFault : E → Type 0) : Type 0 where
  has_value : (v : V) → Is v → HasAnswer Is IsFault
  has_fault : (e : E) → IsFault e → HasAnswer Is IsFault

pub record IsSettled {V E : Type 0} (Is : V → Type 0) (IsFault : E → Type 0) : Type 0 where
  pub some : HasAnswer Is IsFault
  pub one_value : (v w : V) → Is v → Is w → v ≡ w
  pub one_fault : (e f : E) → IsFault e → IsFault f → e ≡ f
  pub not_both : (v : V) (e : E) → Is v → IsFault e → ⊥

-- what a station makes of a value that the station before it makes
pub record IsAfter {V W : Type 0} (Is : V → Type 0) (IsNext : V → W → Type 0) (w : W) : Type 0 where
  pub before : V
  pub is : Is before
  pub next : IsNext before w

-- its refusal: that of the station before it, in words of its own, or one of what it makes
pub data IsFaultAfter {V E F : Type 0} (Is : V → Type 0) (IsFault : E → Type 0) (own : E → F) (IsNextFault : V → F → Type 0) (f : F) : Type 0 where
  passed_on : (e : E) → IsFault e → f ≡ own e → IsFaultAfter Is IsFault own IsNextFault f
  here : (v : V) → Is v → IsNextFault v f → IsFaultAfter Is IsFault own IsNextFault f
