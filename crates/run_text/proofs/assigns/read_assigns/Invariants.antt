use Rattle.run_text.proofs.Common.{◌≡◌, [], Some, take, drop, each_of, settings_refusal, assign_of}
use Rattle.run_text.proofs.assigns.read_assigns.Given as goal

abbrev pub invariant-loop-setting : goal.invariant-loop-setting
invariant-loop-setting l = record {
  refusal : settings_refusal l.params l.number l.seen (drop l.setting-index l.settings) ≡ settings_refusal l.params l.number [] l.settings;
  are : each_of (assign_of l.params) (take l.setting-index l.settings) ≡ Some l.assigns.items;
}
