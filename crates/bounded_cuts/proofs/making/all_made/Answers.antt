use Rattle.bounded_cuts.proofs.Lemmas.{◌≡◌, ℕ, subst, arith, node_count, AreMade, none_made}
use Rattle.bounded_cuts.proofs.making.all_made.Goals as goal

pub loop-n-init : goal.loop-n-init
loop-n-init c = none_made _ _ _ c.in_ok-new.ensures c.new-5.ensures.items

pub returns : goal.returns
returns c =
    let e : c.loop-n.n ≡ node_count c.args.wanted.now.graph.now = omega (arith, c.loop-n.auto.n-end, c.loop-n-test.false, c.len-n-end.ensures.count) in
    subst (λ (n : ℕ). AreMade c.args.wanted.now n c.loop-n.made.rows c.loop-n.made.worths.items) e c.loop-n.invariant
