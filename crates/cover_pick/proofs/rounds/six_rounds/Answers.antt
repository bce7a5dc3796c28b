use Rattle.cover_pick.proofs.Lemmas.{AnyHeight, LeastHeight, three_over, cheaper_by}
use Rattle.cover_pick.proofs.rounds.six_rounds.Goals as goal

pub returns : goal.returns
returns c =
    let choices = c.args.choices.now in
    let counts = c.args.counts.now in
    cheaper_by choices (three_over choices AnyHeight counts) (three_over choices LeastHeight counts) c.in_ok-any.any c.in_ok-low.low c.cheaper.result c.in_ok-any.ensures c.in_ok-low.ensures c.cheaper.ensures.value
