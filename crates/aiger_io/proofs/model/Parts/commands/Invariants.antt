use Rattle.aiger_io.proofs.Common.{◌≡◌, ◌∷◌, ◌++◌, drop, variable_name, zero_command, commands_from}
use Rattle.aiger_io.proofs.model.Parts.commands.Given as goal

abbrev pub invariant-loop-item : goal.invariant-loop-item
invariant-loop-item l = record {
  place : l.place ≡ l.item-index;
  so_far : l.commands.items ++ commands_from l.self.mark.now l.self.header l.self.inputs.now l.self.outputs.now l.place (drop l.item-index l.items) ≡ zero_command 1 (variable_name l.self.mark.now 0) ∷ commands_from l.self.mark.now l.self.header l.self.inputs.now l.self.outputs.now 0 l.items;
}
