use Rattle.spec_core.proofs.Common.{◌≡◌, ℕ, ◌≤◌, map, filter, range_with_len, written, config_bit, differs_at, write_of, bits_under}
use Rattle.spec_core.proofs.device.Device.write_differing.Given as goal

abbrev pub invariant-loop-address : goal.invariant-loop-address
invariant-loop-address l = record {
  writes : l.self.writes ≡ map (write_of (bits_under l.evaluation.pack l.evaluation.now.values)) (filter (differs_at l.initial.self.config (bits_under l.evaluation.pack l.evaluation.now.values)) (range_with_len 0 l.address));
  config : l.self.config ≡ written l.initial.self.config l.self.writes;
  rest : (k : ℕ) → l.address ≤ k → config_bit l.self.config k ≡ config_bit l.initial.self.config k;
}
