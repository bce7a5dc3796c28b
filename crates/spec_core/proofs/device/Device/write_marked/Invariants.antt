use Rattle.spec_core.proofs.Common.{◌≡◌, ◌++◌, length, filter, range_with_len, written, is_marked, bits_under, writes_where}
use Rattle.spec_core.proofs.device.Device.write_marked.Given as goal

abbrev pub invariant-loop-address : goal.invariant-loop-address
invariant-loop-address l = record {
  writes : l.self.writes ++ writes_where (is_marked l.evaluation.now.addresses) (bits_under l.initial.evaluation.pack l.initial.evaluation.now.values)
      ≡ writes_where (is_marked l.initial.evaluation.now.addresses) (bits_under l.initial.evaluation.pack l.initial.evaluation.now.values);
  config : l.self.config ≡ written l.initial.self.config l.self.writes;
  evaluation : l.evaluation ≡ record l.initial.evaluation { now = record l.initial.evaluation.now { addresses = l.evaluation.now.addresses } };
  marks : length l.evaluation.now.addresses ≡ length l.initial.evaluation.pack.bits;
}

abbrev pub decreases-loop-address : goal.decreases-loop-address
decreases-loop-address l = length (filter (is_marked l.evaluation.now.addresses) (range_with_len 0 (length l.initial.evaluation.pack.bits)))
