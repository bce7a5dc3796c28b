-- What a netlist must keep to be written.
use Rattle.std.specs.Prelude.{◌≡◌, ℕ, ◌<◌, ◌≤◌, ◌^◌, List, Some, length, map, slice_get}
use Rattle.blif_write.specs.Words.{In, OutPort, FlatValue, underscores, Param, regular_names, TemplateValue}

-- the sources can be numbered, and the regular inputs stand at these places
pub record CanBeNamed (flat : FlatValue) (params : List Param) (regular : List ℕ) : Type 0 where
  pub few_inputs : length flat.inputs < 2 ^ 32
  pub few_params : length params < 2 ^ 32
  pub few_latches : length flat.latches < 2 ^ 32
  pub places : map (slice_get flat.inputs) regular ≡ map (λ name. Some name) (regular_names flat params)
  -- no output's name begins with more underscores than are counted
  pub under : (o : OutPort) → In flat.outputs o → underscores o.name ≤ flat.under

-- a template has one root for each output and each latch
pub record AreRootsOf (flat : FlatValue) (t : TemplateValue) : Type 0 where
  pub outputs : length t.outputs ≡ length flat.outputs
  pub next : length t.next ≡ length flat.latches
