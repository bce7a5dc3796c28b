-- A pack has as many sources as parameters, and one configuration under any values of them; and what the loop over the bits keeps.
use Rattle.ppc_pack.proofs.Common.{◌≡◌, Bool, List, length, map, refl, ap, ◌∙◌, length-replicate, Parameter, lits_of, value_of, HasOneFit, PackValue, IsPack, HasOneConf}

-- the sources are the parameters
pub kinds_count : (pack : PackValue) → IsPack pack.params pack.graph pack.bits → length pack.graph.kinds ≡ length pack.params
kinds_count pack is = ap length is.kinds ∙ length-replicate (length pack.params) Parameter

-- there is one configuration where one list of values fits the graph
pub has_one_conf : (pack : PackValue) (params : List Bool) → HasOneFit pack.graph params → HasOneConf pack params
has_one_conf pack params one = record {
  bits = map (value_of one.values) (lits_of pack.bits);
  is = record { values = one.values; fits = one.fits; are = refl };
  only = λ others conf. conf.are ∙ ap (λ values. map (value_of values) (lits_of pack.bits)) (one.only conf.values conf.fits);
}
