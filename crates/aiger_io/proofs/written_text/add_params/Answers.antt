use Rattle.aiger_io.proofs.Lemmas.{◌≡◌, ◌+◌, Some, sym, ap, refl, ◌∙◌, slice_get, slice_get-get_or, added_as, symbol_text, Param, added_numbered}
use Rattle.aiger_io.proofs.written_text.add_params.Goals as goal

pub loop-k-preserved : goal.loop-k-preserved
loop-k-preserved g c =
    let at : slice_get c.args.params.now c.loop-k.k ≡ Some c.index-params-k.result = slice_get-get_or c.args.params.now c.loop-k.k c.index-params-k.result c.loop-k-test.true ∙ ap (λ x. Some x) (sym c.index-params-k.is) in
    added_numbered (λ k (p : Param). symbol_text 105 k p.name) c.args.first c.args.params.now c.loop-k.k (c.args.first + c.loop-k.k) c.index-params-k.result at refl c.loop-k.invariant
    (added_as (ap (symbol_text 105 (c.args.first + c.loop-k.k)) c.bytes.ensures) c.add_symbol.ensures)
