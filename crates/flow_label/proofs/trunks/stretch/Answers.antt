use Rattle.flow_label.proofs.Common.{◌≡◌, ◌<◌, ◌∙◌, subst, arith, length, get_or, In-get_or, In-place, length-set}
use Rattle.flow_label.proofs.TrunkLemmas.{stretched_each, stretched_done}
use Rattle.flow_label.proofs.trunks.stretch.Goals as goal

pub index_mut-requires : goal.index_mut-requires
index_mut-requires c =
    let a : get_or c.args.nodes.now c.loop-m.m-index 0 < length c.args.until.now.items = c.requires _ (In-get_or c.args.nodes.now c.loop-m.m-index 0 c.loop-m-test.true) in
    omega (arith, c.loop-m.invariant.size, c.loop-m.until.ok.0)

pub loop-m-preserved : goal.loop-m-preserved
loop-m-preserved c =
    let a : get_or c.args.nodes.now c.loop-m.m-index 0 < length c.args.until.now.items = c.requires _ (In-get_or c.args.nodes.now c.loop-m.m-index 0 c.loop-m-test.true) in
    let b : get_or c.args.nodes.now c.loop-m.m-index 0 < length c.loop-m.until.items = omega (arith, c.loop-m.invariant.size) in
    record {
      size = length-set c.loop-m.until.items (get_or c.args.nodes.now c.loop-m.m-index 0) c.args.floor ∙ c.loop-m.invariant.size;
      each = λ m. stretched_each c.args.until.now.items c.loop-m.until.items c.args.nodes.now c.args.floor (get_or c.args.nodes.now c.loop-m.m-index 0) b (In-get_or c.args.nodes.now c.loop-m.m-index 0 c.loop-m-test.true) m (c.loop-m.invariant.each m);
      done = λ j l. stretched_done c.loop-m.until.items c.args.nodes.now c.args.floor c.loop-m.m-index b c.loop-m.invariant.done j l;
    }

pub returns : goal.returns
returns c = record {
  size = c.loop-m.invariant.size;
  each = c.loop-m.invariant.each;
  all = λ m i. let p = In-place c.args.nodes.now m i in subst (λ x. get_or c.loop-m.until.items x 0 ≡ c.args.floor) p.2 (c.loop-m.invariant.done p.0 (let l : p.0 < length c.args.nodes.now = p.1 in omega (arith, c.loop-m-test.false)));
}
