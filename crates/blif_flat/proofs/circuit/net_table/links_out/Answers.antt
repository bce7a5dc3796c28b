use Rattle.blif_flat.proofs.Common.{◌≡◌, ◌-◌, suc, ap, ◌∙◌, arith, NetsValue, links_out}
use Rattle.blif_flat.proofs.circuit.net_table.links_out.Goals as goal

pub loop-left-preserved : goal.loop-left-preserved
loop-left-preserved c =
    let next : suc (c.loop-left.left - 1) ≡ c.loop-left.left = omega arith in
    record {
      out = λ library a. ap (λ (n : NetsValue). links_out library c.args.placed.now.instances.now n (c.loop-left.left - 1)) (c.link_out.ensures.out library a)
          ∙ ap (λ k. links_out library c.args.placed.now.instances.now c.loop-left.nets k) next ∙ c.loop-left.invariant.out library a;
      nets = c.link_out.ensures.nets;
    }
