use Rattle.gen_case.proofs.Lemmas.{map, codes, below, setting, line_added}
use Rattle.gen_case.proofs.changes.add_set.Goals as goal

pub returns : goal.returns
returns c =
    line_added (codes "set") (map (setting c.args.value) (below c.args.n)) _ _ _ _ c.in_ok-push_str.ensures.bytes c.in_ok-add_settings.ensures c.in_ok-push_str-2.ensures.bytes
