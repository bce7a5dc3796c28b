use Rattle.run_text.proofs.Common.{rules, take_rest}
use Rattle.run_text.proofs.ScriptReadLemmas.{split_none, split_there}
use Rattle.run_text.proofs.setting.split_last.Goals as goal

pub returns-in-None : goal.returns-in-None
returns-in-None c = split_none c.args.word.now (search rules)

pub returns-in-Some : goal.returns-in-Some
returns-in-Some c =
    let found = split_there c.args.word.now c.in-Some.place (search rules) (search rules) (search rules) in
    rw (found, take_rest)
