use Rattle.ppc_pack.proofs.Common.{◌≡◌, ◌∙◌, List, Bool, length, replicate, subst, sym, ap, length-replicate, Parameter, HasOneFit, PackValue, HasOneConf}
use Rattle.ppc_pack.proofs.ConfLemmas.{has_one_conf}
use Rattle.ppc_pack.proofs.pack.Pack.conf.Goals as goal

-- the value of a pack has one configuration where its graph has one fit
one_of : (inside now : PackValue) (given : List Bool) → inside ≡ now → inside.graph.kinds ≡ replicate (length inside.params) Parameter
    → ((values : List Bool) → length values ≡ length inside.graph.kinds → HasOneFit inside.graph values) → length given ≡ length now.params → HasOneConf now given
one_of inside now given same kinds one len =
    let n : length inside.graph.kinds ≡ length inside.params = ap length kinds ∙ length-replicate (length inside.params) Parameter in
    subst (λ (p : PackValue). HasOneConf p given) same (has_one_conf inside given (one given (len ∙ ap (λ (p : PackValue). length p.params) (sym same) ∙ sym n)))

pub returns-in_err-node_values-clause-one : goal.returns-in_err-node_values-clause-one
returns-in_err-node_values-clause-one c = λ given len. one_of _ c.args.self.now given c.self.view_is c.self.invariant.kinds c.eval.ensures.one len

pub returns-clause-one : goal.returns-clause-one
returns-clause-one c = λ given len. one_of _ c.args.self.now given c.self.view_is c.self.invariant.kinds c.eval.ensures.one len
