use Rattle.aiger_io.proofs.Common.{ℕ, ◌+◌, refl, added_next, input_item, item_text}
use Rattle.aiger_io.proofs.written_text.add_inputs.Goals as goal

pub loop-i-preserved : goal.loop-i-preserved
loop-i-preserved g c = added_next (λ (n : ℕ). item_text (input_item n)) 1 c.loop-i.i (1 + c.loop-i.i) refl c.loop-i.invariant c.add_literal.ensures.input
