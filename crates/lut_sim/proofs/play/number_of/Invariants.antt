use Rattle.lut_sim.proofs.Common.{◌≡◌, ◌<◌, ◌-◌, ◌^◌, length, drop, number, leaf_values, value_in}
use Rattle.lut_sim.proofs.play.number_of.Given as goal

-- the number of the last leaves
abbrev pub invariant-loop-i : goal.invariant-loop-i
invariant-loop-i l = record {
  number : l.above ≡ number (leaf_values (value_in l.values) (drop (length l.cut - l.i) l.cut));
  small : l.above < 2 ^ l.i;
}
