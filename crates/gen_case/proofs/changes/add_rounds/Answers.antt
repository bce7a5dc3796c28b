use Rattle.gen_case.proofs.Lemmas.{arith, ◌-◌, sym, string_bytes, append-nil, lines_added}
use Rattle.gen_case.specs.Script.{round_lines, rounds}
use Rattle.gen_case.proofs.changes.add_rounds.Goals as goal

pub loop-round-init : goal.loop-round-init
unfolding rounds
loop-round-init c = sym (append-nil (string_bytes c.args.text.now))

pub loop-round-preserved : goal.loop-round-preserved
unfolding rounds
loop-round-preserved c =
    lines_added (round_lines c.args.n c.args.seed) 1 (c.loop-round.round - 1) _ c.loop-round.round _ _ _ (omega arith) (omega arith) c.loop-round.invariant c.in_ok-add_round.ensures
