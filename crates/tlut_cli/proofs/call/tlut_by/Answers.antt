use Rattle.tlut_cli.proofs.Common.{map, string_bytes, length, length-map}
use Rattle.tlut_cli.proofs.CallLemmas.{meaning}
use Rattle.tlut_cli.proofs.call.tlut_by.Goals as goal

pub returns-clause-meaning : goal.returns-clause-meaning
returns-clause-meaning g c =
    meaning c.args.rule (map string_bytes c.args.words.now) _ _ (length c.args.ports.now.items) (length-map c.args.ports.now.items _) c.run_words-ended.ensures.laws c.run_words-ended.result.outcome c.status.result c.status.ensures c.run_words-ended.ensures.end
