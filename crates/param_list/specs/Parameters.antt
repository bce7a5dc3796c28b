-- The parameters of a netlist: some of its inputs, each once, in the order of their list, and the inputs that are left.
use Rattle.std.specs.Prelude.{◌≡◌, ℕ, ◌≤◌, Bool, not, List, ◌++◌, length, map, filter, Some, slice_get}
use Rattle.list_laws.specs.Members.{In}
use Rattle.tl_text.specs.Clean.{IsClean}
use Rattle.tl_text.specs.Once.{AreOnce}
use Rattle.netlist.specs.FlatValue.{FlatValue}
use Rattle.netlist.specs.Models.{has_name}
use Rattle.param_list.specs.declared.params.Param.{Param}
use Rattle.tl_text.specs.declared.limits.TheConstants.{MOST_PARAMETERS, MOST_NAME_BYTES}

-- a parameter list as a plain list
pub record ParamsValue : Type 0 where
  pub list : List Param

-- the names of the parameters, and their values at the start
abbrev pub param_names : List Param → List (List ℕ)
param_names params = map (λ (p : Param). p.name) params

abbrev pub param_inits : List Param → List Bool
param_inits params = map (λ (p : Param). p.init) params

-- the inputs that aren't parameters, in their order
abbrev pub regular_names : FlatValue → List Param → List (List ℕ)
regular_names flat params = filter (λ name. not (has_name (param_names params) name)) flat.inputs

-- the parameters' names are few, short, clean, and each occurs once
pub record AreNamed (params : List Param) : Type 0 where
  pub few : length params ≤ MOST_PARAMETERS
  pub short : (p : Param) → In params p → length p.name ≤ MOST_NAME_BYTES
  pub clean : (p : Param) → In params p → IsClean p.name
  pub once : AreOnce (param_names params)

-- and each is an input of the flat circuit, at its place
pub record AreParameters (flat : FlatValue) (params : List Param) : Type 0 where
  pub named : AreNamed params
  pub inputs : (p : Param) → In params p → slice_get flat.inputs p.input ≡ Some p.name

-- The names of the inputs that are left, and then of the parameters: these are the inputs' names, each once.
pub record IsSplit (flat : FlatValue) (params : List Param) : Type 0 where
  pub once : AreOnce (regular_names flat params ++ param_names params)
  pub count : length (regular_names flat params ++ param_names params) ≡ length flat.inputs
  pub only : (name : List ℕ) → In (regular_names flat params ++ param_names params) name → In flat.inputs name
  pub all : (name : List ℕ) → In flat.inputs name → In (regular_names flat params ++ param_names params) name
