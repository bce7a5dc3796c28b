-- Packs: what they keep, and their configurations.
use Rattle.std.specs.Prelude.{◌≡◌, ◌≤◌, Bool, List, length, map, replicate}
use Rattle.list_laws.specs.Members.{In}
use Rattle.tl_text.specs.Clean.{IsClean}
use Rattle.tl_text.specs.Once.{AreOnce}
use Rattle.aig_core.specs.declared.lit.Kind.TheVariants.{Parameter}
use Rattle.aig_core.specs.declared.lit.Lit.{Lit}
use Rattle.aig_core.specs.Aig.{Aig, IsLit}
use Rattle.aig_core.specs.Roots.{lits_of}
use Rattle.aig_core.specs.Value.{FitsGraph, value_of}
use Rattle.ppc_pack.specs.declared.pack.PackParam.{PackParam}
use Rattle.ppc_pack.specs.declared.pack.TheConstants.{MOST_PACK_NODES, MOST_PACK_BITS}
use Rattle.tl_text.specs.declared.limits.TheConstants.{MOST_PARAMETERS, MOST_NAME_BYTES}

-- a pack as plain lists
pub record PackValue : Type 0 where
  pub params : List PackParam
  pub graph : Aig
  pub bits : List Lit

-- what the parameters, the graph and the bits of every pack keep
pub record IsPack (params : List PackParam) (g : Aig) (bits : List Lit) : Type 0 where
  pub few_params : length params ≤ MOST_PARAMETERS
  pub short : (p : PackParam) → In params p → length p.name ≤ MOST_NAME_BYTES
  pub clean : (p : PackParam) → In params p → IsClean p.name
  pub once : AreOnce (map (λ (p : PackParam). p.name) params)
  pub kinds : g.kinds ≡ replicate (length params) Parameter
  pub few_nodes : length g.pairs ≤ MOST_PACK_NODES
  pub few_bits : length bits ≤ MOST_PACK_BITS
  pub lits : (l : Lit) → In bits l → IsLit g l.0

-- the values at the start
abbrev pub inits_of : List PackParam → List Bool
inits_of params = map (λ (p : PackParam). p.init) params

-- the configuration under the parameters' values: the values of the bits' literals under the values that fit the graph
pub record IsConf (pack : PackValue) (params bits : List Bool) : Type 0 where
  pub values : List Bool
  pub fits : FitsGraph pack.graph params values
  pub are : bits ≡ map (value_of values) (lits_of pack.bits)

-- there is one, and no other
pub record HasOneConf (pack : PackValue) (params : List Bool) : Type 0 where
  pub bits : List Bool
  pub is : IsConf pack params bits
  pub only : (others : List Bool) → IsConf pack params others → others ≡ bits
