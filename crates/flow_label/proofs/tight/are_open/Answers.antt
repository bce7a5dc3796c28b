use Rattle.flow_label.proofs.Common.{In-get_or, In-place, IsOpen, net_of, subst, arith, ◌<◌, length}
use Rattle.flow_label.proofs.tight.are_open.Goals as goal

pub is_open-requires : goal.is_open-requires
is_open-requires c = c.requires _ (In-get_or c.args.nodes.now c.loop-m.m-index 0 c.loop-m-test.true)

pub returns : goal.returns
returns c = λ e m i. let p = In-place c.args.nodes.now m i in subst (λ x. IsOpen (net_of c.args.site.now) x) p.2 (c.loop-m.invariant p.0 (let l : p.0 < length c.args.nodes.now = p.1 in omega (arith, c.loop-m-test.false)))
