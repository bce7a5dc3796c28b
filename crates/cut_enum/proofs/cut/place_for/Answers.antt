use Rattle.std.proofs.Common.{arith, length}
use Rattle.cut_enum.proofs.PutLemmas.{put_there, put_insert}
use Rattle.cut_enum.proofs.cut.place_for.Goals as goal

pub returns-then-y-x-clause-there : goal.returns-then-y-x-clause-there
returns-then-y-x-clause-there c =
    put_there c.args.x c.args.leaves.now c.loop-i.i (record { within = omega arith; below = c.loop-i.invariant; above = λ l. omega arith }) c.loop-i-test.true c.if-y-x.true

pub returns-then-y-x-2-clause-place : goal.returns-then-y-x-2-clause-place
returns-then-y-x-2-clause-place c =
    put_insert c.args.x c.args.leaves.now c.loop-i.i (record { within = omega arith; below = c.loop-i.invariant; above = λ l. omega arith }) (λ l. c.if-y-x.false)

pub returns-clause-place : goal.returns-clause-place
returns-clause-place c =
    put_insert c.args.x c.args.leaves.now (length c.args.leaves.now)
    (record { within = omega arith; below = λ k l. c.loop-i.invariant k (omega arith); above = λ l. absurd (omega arith) }) (λ l e. absurd (omega arith))
