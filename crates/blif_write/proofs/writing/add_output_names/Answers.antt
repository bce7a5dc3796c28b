use Rattle.blif_write.proofs.Lemmas.{◌∷◌, ap, arith, ◌∙◌, flat_map, take_all, added_as, added_none, added_part, OutPort, words_of}
use Rattle.blif_write.proofs.writing.add_output_names.Goals as goal

pub loop-output-init : goal.loop-output-init
loop-output-init g c = added_none g.O.Sink.seen c.args.writer.now

pub loop-output-preserved : goal.loop-output-preserved
loop-output-preserved g c = added_part (λ (o : OutPort). 32 ∷ o.name) c.args.outputs.now c.loop-output.output-index c.output-item.result (omega arith) c.loop-output.invariant (added_as (ap (λ (o : OutPort). 32 ∷ o.name) c.output-item.is) c.add_word.ensures)

pub returns : goal.returns
returns g c =
    added_as (ap (flat_map (λ (o : OutPort). 32 ∷ o.name)) (take_all c.loop-output.output-index c.args.outputs.now (omega arith)) ∙ words_of (λ (o : OutPort). o.name) c.args.outputs.now) c.loop-output.invariant
