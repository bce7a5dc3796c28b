use Rattle.blif_flat.proofs.Common.{◌+◌, drop, drop_at, ap, sym, ◌∙◌, is_output, NetsValue, pairs_out}
use Rattle.blif_flat.proofs.circuit.nets.pairs_out.Goals as goal

pub loop-pair-preserved : goal.loop-pair-preserved
loop-pair-preserved c = record {
  copied = λ child p.
      ap (λ (n : NetsValue). pairs_out (is_output child) c.args.inner c.args.outer n (drop (c.loop-pair.pair-index + 1) c.args.pairs.now)) (c.pair_out.ensures.out child p)
      ∙ sym (ap (pairs_out (is_output child) c.args.inner c.args.outer c.loop-pair.nets) (drop_at c.args.pairs.now c.loop-pair.pair-index c.pair-item.result c.loop-pair-test.true c.pair-item.is))
      ∙ c.loop-pair.invariant.copied child p;
  nets = c.pair_out.ensures.nets;
}
