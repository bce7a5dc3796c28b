-- The configurations of a template's pack are those of the template, for all values of the parameters.
use Rattle.std.specs.Prelude.{◌≡◌, Bool, List, length}
use Rattle.bit_fun.specs.Words.{Aig, Lut, PackValue, IsConf}
use Rattle.bit_fun.specs.Configuration.{IsConfiguration, IsLawful}

pub record HasConfigurations (g : Aig) (luts : List Lut) (pack : PackValue) : Type 0 where
  -- a configuration of the pack has the bit of each address
  pub is : (params bits : List Bool) → length params ≡ length pack.params → IsConf pack params bits → IsConfiguration g luts params bits
  -- and under it, whatever values the regular sources have, the values of the graph's literals fit the tables
  pub law : (params bits : List Bool) → length params ≡ length pack.params → IsConf pack params bits → IsLawful g luts params bits
