use Rattle.tl_text.proofs.Common.{◌≡◌, drop, with_names}
use Rattle.tl_text.proofs.name_index.NameIndex.with_names.Given as goal

abbrev pub invariant-loop-name : goal.invariant-loop-name
invariant-loop-name l = with_names l.all (drop l.name-index l.names) ≡ with_names l.fn.self l.names
