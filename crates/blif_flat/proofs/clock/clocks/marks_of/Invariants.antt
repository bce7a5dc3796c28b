use Rattle.blif_flat.proofs.Common.{◌≡◌, ◌++◌, ◌||◌, map, drop, slice_get, option_and_then, has_name, is_control}
use Rattle.blif_flat.proofs.clock.clocks.marks_of.Given as goal

abbrev pub invariant-loop-input : goal.invariant-loop-input
invariant-loop-input l = l.marks.items ++ map (λ name. has_name l.clocks name || is_control (option_and_then (slice_get l.inputs) l.control) name) (drop l.input-index l.inputs)
    ≡ map (λ name. has_name l.clocks name || is_control (option_and_then (slice_get l.inputs) l.control) name) l.inputs
