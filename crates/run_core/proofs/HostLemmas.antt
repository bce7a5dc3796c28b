-- What a host keeps when it is played.
use Rattle.std.proofs.Common.{◌≡◌, List, length, ap, sym, ◌∙◌}
use Rattle.tl_io.specs.declared.Assign.{Assign}
use Rattle.spec_core.specs.Events.{IsSet}
use Rattle.spec_core.specs.Specialiser.{SpecialiserValue}
use Rattle.spec_core.proofs.AssignLemmas.{length-assigned}
use Rattle.tl_io.proofs.BitLemmas.{length-written}
use Rattle.run_core.specs.Keeps.{KeepsHost}

-- a change of parameters leaves as many values and bits
pub set_keeps : (old new : SpecialiserValue) (assigns : List Assign) → KeepsHost old → new.pack ≡ old.pack → IsSet old.pack assigns old.state new.writes new.state → KeepsHost new
set_keeps old new assigns keeps pack set = record {
  params = ap length set.params ∙ (length-assigned assigns old.state.params ∙ (keeps.params ∙ ap (λ p. length p.params) (sym pack)));
  config = ap length set.config ∙ (length-written new.writes old.state.config ∙ (keeps.config ∙ ap (λ p. length p.bits) (sym pack)));
}
