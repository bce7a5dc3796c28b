use Rattle.tlut_host.proofs.Common.{◌≡◌, ◌≤◌, length, map, take, drop, vec_capacity, settings_status, assign_of}
use Rattle.tlut_host.proofs.gather.gather.Given as goal

abbrev pub invariant-loop-setting : goal.invariant-loop-setting
invariant-loop-setting l =
    (l.assigns.items ≡ map assign_of (take l.setting-index l.settings)) × (settings_status l.params l.next (drop l.setting-index l.settings) ≡ settings_status l.params 0 l.settings)
    × (l.next ≤ l.params) × (length l.assigns.items ≤ l.next) × (l.params ≤ vec_capacity l.assigns)
