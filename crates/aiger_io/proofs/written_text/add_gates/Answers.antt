use Rattle.aiger_io.proofs.Lemmas.{◌≡◌, ◌+◌, ◌-◌, Some, subst, arith, slice_get, first_and, Pair, gate_item, item_text, added_numbered}
use Rattle.aiger_io.proofs.written_text.add_gates.Goals as goal

pub loop-i-preserved : goal.loop-i-preserved
loop-i-preserved g c =
    let z : 1 + c.sources-first.result + c.loop-i.i - first_and c.args.graph.now ≡ c.loop-i.i = omega arith in
    let at : slice_get c.args.graph.now.pairs c.loop-i.i ≡ Some c.pair_at-pair.result = subst (λ n. slice_get c.args.graph.now.pairs n ≡ Some c.pair_at-pair.result) z c.pair_at-pair.ensures.pair in
    added_numbered (λ n (p : Pair). item_text (gate_item n p)) (first_and c.args.graph.now) c.args.graph.now.pairs c.loop-i.i (1 + c.sources-first.result + c.loop-i.i) c.pair_at-pair.result at (omega arith) c.loop-i.invariant c.add_gate.ensures
