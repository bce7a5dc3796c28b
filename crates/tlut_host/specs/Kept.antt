-- What a host keeps beside its specialiser.
use Rattle.std.specs.Prelude.{◌≡◌, ℕ, ◌≤◌, List, length, map}
use Rattle.ppc_pack.specs.declared.pack.PackParam.{PackParam}

abbrev pub param_names : List PackParam → List (List ℕ)
param_names params = map (λ (p : PackParam). p.name) params

-- room for a new value of each parameter, and the parameters' names, in their order and by their hashes
pub record IsKept (params : List PackParam) (names index : List (List ℕ)) (room : ℕ) : Type 0 where
  pub few : length params ≤ room
  pub names_are : names ≡ param_names params
  pub index_is : index ≡ param_names params
