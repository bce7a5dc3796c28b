-- The refusal of a library: the walk, the weight, the drivers, the clocks, the loops, in this order.
use Rattle.std.specs.Prelude.{◌≡◌, ℕ, ◌<◌, ◌≤◌, List, [], Some, None}
use Rattle.blif_flat.specs.Circuits.{model_at, Place, is_latch, FlatOrder, ModelValue, LibraryValue, FlatErr, TooLarge, most_weight, Weighs}
use Rattle.blif_flat.specs.ClockFaults.{Clocks, is_gate, ClockData}
use Rattle.blif_flat.specs.DriverFaults.{models_fault}
use Rattle.blif_flat.specs.LoopFault.{IsLoop}
use Rattle.blif_flat.specs.Walk.{refused, walked, WalksMain}

-- the walk comes past F1 to F4 and the weight's limit
pub record IsWalked (library : LibraryValue) (ms : List ModelValue) : Type 0 where
  pub main : ModelValue
  pub at : model_at library [] ≡ Some main
  pub walks : WalksMain library main (walked ms)
  pub weight : ℕ
  pub weighs : Weighs library main weight
  pub light : weight ≤ most_weight

-- past the drivers, and past the controls
pub record IsConnected (library : LibraryValue) : Type 0 where
  pub models : List ModelValue
  pub past : IsWalked library models
  pub none : models_fault library models ≡ None

pub record IsClocked (library : LibraryValue) : Type 0 where
  pub past : IsConnected library
  pub latches : List Place
  pub latches_are : FlatOrder library is_latch [] past.past.main latches
  pub none : Clocks library None latches None

pub data IsFault (library : LibraryValue) (fault : FlatErr) : Type 0 where
  in_walk : (main : ModelValue) → model_at library [] ≡ Some main → WalksMain library main (refused fault) → IsFault library fault
  too_large : (main : ModelValue) (ms : List ModelValue) (weight : ℕ) → model_at library [] ≡ Some main → WalksMain library main (walked ms) → Weighs library main weight → most_weight < weight → fault ≡ TooLarge → IsFault library fault
  in_drivers : (ms : List ModelValue) → IsWalked library ms → models_fault library ms ≡ Some fault → IsFault library fault
  in_controls : (past : IsConnected library) (latches : List Place) → FlatOrder library is_latch [] past.past.main latches → Clocks library None latches (Some fault) → IsFault library fault
  in_data : (past : IsClocked library) (gates : List Place) → FlatOrder library is_gate [] past.past.past.main gates → ClockData library past.past.past.main gates (Some fault) → IsFault library fault
  in_loops : (past : IsClocked library) (gates : List Place) → FlatOrder library is_gate [] past.past.past.main gates → ClockData library past.past.past.main gates None → IsLoop library fault → IsFault library fault

-- a library has one fault at most
pub record HasOneFault (library : LibraryValue) : Type 0 where
  pub once : (fault other : FlatErr) → IsFault library fault → IsFault library other → fault ≡ other

pub record HasNoFault (library : LibraryValue) : Type 0 where
  pub none : (fault : FlatErr) → ¬ (IsFault library fault)
