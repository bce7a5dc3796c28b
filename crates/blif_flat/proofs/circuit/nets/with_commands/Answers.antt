use Rattle.blif_flat.proofs.Lemmas.{◌+◌, drop, ap, sym, ◌∙◌, commands_names, with_names, commands_split}
use Rattle.blif_flat.proofs.circuit.nets.with_commands.Goals as goal

pub loop-command-preserved : goal.loop-command-preserved
loop-command-preserved c =
    ap (λ names. with_names names (commands_names (drop (c.loop-command.command-index + 1) c.args.commands.now))) c.in_ok-all.ensures
    ∙ sym (commands_split c.loop-command.all c.args.commands.now c.loop-command.command-index c.command-item.result c.loop-command-test.true c.command-item.is) ∙ c.loop-command.invariant
