use Rattle.aiger_io.proofs.Lemmas.{◌≡◌, Some, sym, ap, ◌∙◌, arith, slice_get, slice_get-get_or, added_as, symbol_text, OutPort, added_numbered}
use Rattle.aiger_io.proofs.written_text.add_names.Goals as goal

pub loop-k-preserved : goal.loop-k-preserved
loop-k-preserved g c =
    let at : slice_get c.args.outputs.now c.loop-k.k ≡ Some c.index-outputs-k.result = slice_get-get_or c.args.outputs.now c.loop-k.k c.index-outputs-k.result c.loop-k-test.true ∙ ap (λ x. Some x) (sym c.index-outputs-k.is) in
    added_numbered (λ k (o : OutPort). symbol_text 111 k o.name) 0 c.args.outputs.now c.loop-k.k c.loop-k.k c.index-outputs-k.result at (omega arith) c.loop-k.invariant
    (added_as (ap (symbol_text 111 c.loop-k.k) c.bytes.ensures) c.add_symbol.ensures)
