use Rattle.flow_label.proofs.Common.{◌≡◌, ap, ◌∙◌, length, zeros, length-replicate}
use Rattle.flow_label.proofs.stamped.Stamped.new.Goals as goal

pub returns : goal.returns
returns c = let z : c.in_ok-values.values.items ≡ zeros c.args.count = c.in_ok-values.ensures.items_if_clones_equal (λ y e. e) in c.of.ensures ∙ ap zeros (ap length z ∙ length-replicate c.args.count 0)
