use Rattle.run_text.proofs.Common.{◌≡◌, Some, map, take, token_bytes, each_of, setting_of}
use Rattle.run_text.proofs.setting.read_each.Given as goal

abbrev pub invariant-loop-token : goal.invariant-loop-token
invariant-loop-token l = each_of setting_of (map (token_bytes l.text) (take l.token-index l.tokens)) ≡ Some l.settings.items
