-- How long a change stalls the circuit: after an ask that leaves D bits to write, the tick of the number i waits exactly where i times the rate is below D. So the first ticks wait, as many as D divided by the rate and rounded up, or all where there are fewer; each later one is a cycle.
use Rattle.std.specs.Prelude.{◌≡◌, ℕ, ◌*◌, ◌<◌, ◌≤◌, List, [], ◌∷◌, length, Some, slice_get}
use Rattle.pace_core.specs.EventValue.{PaceValue, Ask, Tick}
use Rattle.pace_core.specs.Pace.{PacerValue, Shown, asked, waited, cycled, ArePaced}

-- all events are ticks
abbrev pub AreTicks : List PaceValue → Type 0
AreTicks [] = Unit {0}
AreTicks (Ask assigns ∷ events) = ⊥
AreTicks (Tick values ∷ events) = AreTicks events

-- a wait, which writes so many bits at most
abbrev pub IsStall : ℕ → Shown → Type 0
IsStall rate (asked count) = ⊥
IsStall rate (waited writes) = (0 < length writes) × (length writes ≤ rate)
IsStall rate (cycled outputs states) = ⊥

-- a cycle
abbrev pub IsCycled : Shown → Type 0
IsCycled (asked count) = ⊥
IsCycled (waited writes) = ⊥
IsCycled (cycled outputs states) = Unit {0}

-- of a machine whose device is behind by so many bits: whatever ticks come, those of the numbers below it wait, and each later one is a cycle
pub record HasStalls (pacer : PacerValue) (behind : ℕ) : Type 0 where
  pub stalls : (ticks : List PaceValue) (shown : List Shown) (new : PacerValue) → AreTicks ticks → ArePaced pacer ticks shown new → (i : ℕ) (one : Shown) → slice_get shown i ≡ Some one → i * pacer.rate < behind → IsStall pacer.rate one
  pub cycles : (ticks : List PaceValue) (shown : List Shown) (new : PacerValue) → AreTicks ticks → ArePaced pacer ticks shown new → (i : ℕ) (one : Shown) → slice_get shown i ≡ Some one → behind ≤ i * pacer.rate → IsCycled one
