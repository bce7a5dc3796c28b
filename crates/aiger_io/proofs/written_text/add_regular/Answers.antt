use Rattle.aiger_io.proofs.Lemmas.{ℕ, [], arith, ap, slice_index_or, slice_get-get_or, added_as, symbol_text, added_numbered}
use Rattle.aiger_io.proofs.written_text.add_regular.Goals as goal

pub loop-k-preserved : goal.loop-k-preserved
loop-k-preserved g c = added_numbered (λ k (i : ℕ). symbol_text 105 k (slice_index_or c.args.inputs.now i [])) 0 c.args.regular.now c.loop-k.k c.loop-k.k _ (slice_get-get_or c.args.regular.now c.loop-k.k 0 c.loop-k-test.true) (omega arith) c.loop-k.invariant
    (added_as (ap (symbol_text 105 c.loop-k.k) c.name_at.ensures) c.add_symbol.ensures)
