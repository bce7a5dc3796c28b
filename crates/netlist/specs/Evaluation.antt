-- A flat circuit evaluated: each cover of the order in turn, from the values of the nets that it reads.
use Rattle.std.specs.Prelude.{◌≡◌, ℕ, Bool, false, List, [], ◌∷◌, length, map, replicate, Option, Some, None, slice_get, slice_set, unwrap_or}
use Rattle.std.specs.Option.{option_and_then}
use Rattle.netlist.specs.Circuits.{In, FlatCoverValue, FlatValue, CoverAt, Path, body_at, Net, Drives, Place, cover_in, CoverValue, cover_value, ModelValue, LibraryValue, FlatNet}
use Rattle.netlist.specs.Cycle.{Fits}
use Rattle.netlist.specs.Flat.{Places, IsNumbered}
use Rattle.netlist.specs.declared.flat.FlatNet.TheVariants.{Input, Latch, Cover}

-- the cover behind a flat one
abbrev pub cover_behind : LibraryValue → FlatCoverValue → Option CoverValue
cover_behind library c = option_and_then (λ (m : ModelValue). option_and_then cover_in (body_at m c.command)) (slice_get library.models c.model)

-- the value of a net: of the inputs, of the latches, of the covers so far
abbrev pub net_value : List Bool → List Bool → List Bool → FlatNet → Bool
net_value x s values (Input j) = unwrap_or (slice_get x j) false
net_value x s values (Latch j) = unwrap_or (slice_get s j) false
net_value x s values (Cover j) = unwrap_or (slice_get values j) false

abbrev pub value_of : Option CoverValue → List Bool → Bool
value_of None inputs = false
value_of (Some c) inputs = cover_value c inputs

abbrev pub gate_value : LibraryValue → Option FlatCoverValue → List Bool → List Bool → List Bool → Bool
gate_value library None x s values = false
gate_value library (Some c) x s values = value_of (cover_behind library c) (map (net_value x s values) c.inputs)

abbrev pub evaluated : LibraryValue → FlatValue → List Bool → List Bool → List ℕ → List Bool → List Bool
evaluated library flat x s [] values = values
evaluated library flat x s (k ∷ ks) values = evaluated library flat x s ks (slice_set values k (gate_value library (slice_get flat.covers k) x s values))

abbrev pub flat_values : LibraryValue → FlatValue → List Bool → List Bool → List Bool
flat_values library flat x s = evaluated library flat x s flat.order (replicate (length flat.covers) false)

-- the values x and s are those of the inputs and of the latches by their places
pub record AreGiven (flat : FlatValue) (at : Places) (x : List ℕ → Bool) (s : Path → ℕ → Bool) (xs ss : List Bool) : Type 0 where
  pub inputs : (j : ℕ) (name : List ℕ) → slice_get flat.inputs j ≡ Some name → slice_get xs j ≡ Some (x name)
  pub latches : (j : ℕ) (p : Place) → slice_get at.latches j ≡ Some p → slice_get ss j ≡ Some (s p.path p.command)

-- Evaluating in the order gives each cover in it the value of each map that fits.
pub record Evaluates (library : LibraryValue) (flat : FlatValue) (at : Places) : Type 0 where
  pub each : (x : List ℕ → Bool) (s : Path → ℕ → Bool) (xs ss : List Bool) (value : Path → List ℕ → Bool) → AreGiven flat at x s xs ss → Fits library x s value
      → (k : ℕ) → In flat.order k → (p : Place) (c : CoverValue) → slice_get at.covers k ≡ Some p → CoverAt library p.path p.command c
      → slice_get (flat_values library flat xs ss) k ≡ Some (value p.path c.output)
  -- and so it gives any name whose net is an input, a latch or a cover in the order the value of the name
  pub names : (x : List ℕ → Bool) (s : Path → ℕ → Bool) (xs ss : List Bool) (value : Path → List ℕ → Bool) → AreGiven flat at x s xs ss → Fits library x s value
      → (path : Path) (name : List ℕ) (net : Net) (number : FlatNet) → Drives library path name net → IsNumbered at net number → ((k : ℕ) → number ≡ Cover k → In flat.order k)
      → net_value xs ss (flat_values library flat xs ss) number ≡ value path name
