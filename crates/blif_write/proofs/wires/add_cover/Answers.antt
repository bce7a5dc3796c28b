use Rattle.blif_write.proofs.Lemmas.{literal_name, added_as, added_twice, wire_text}
use Rattle.blif_write.proofs.wires.add_cover.Goals as goal

pub returns : goal.returns
returns g c =
    added_as (wire_text (literal_name c.args.names.now c.args.root.0) c.args.output.now)
    (added_twice c.add_text.ensures
    (added_twice c.add_literal.ensures
    (added_twice c.add_word.ensures c.add_text-2.ensures)))
