use Rattle.blif_write.proofs.Lemmas.{sym, ◌∙◌, other_literal}
use Rattle.blif_write.proofs.names.Names.is_own.Goals as goal

pub returns-else-is_input : goal.returns-else-is_input
returns-else-is_input c = c.if-is_input.false ∙ other_literal c.args.self.now c.args.root.0 c.args.output.now (sym c.is_input.ensures.value ∙ c.if-is_input.false) c.requires
