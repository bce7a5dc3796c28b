use Rattle.flow_label.proofs.Lemmas.{arith, sym, ap, ◌∙◌, length, get_or, values_none, zeros_none}
use Rattle.flow_label.proofs.stamped.Stamped.of.Goals as goal

pub returns : goal.returns
returns c = values_none 1 c.args.stamps.items c.args.values.items c.requires.size
    (λ i l e. zeros_none 1 (length c.args.stamps.items) (omega arith) i (ap (λ xs. get_or xs i 0) (sym c.requires.stamps) ∙ e))
