use Rattle.std.proofs.Common.{◌≡◌, ℕ, ap, replicate, arith}
use Rattle.tl_piece.proofs.AddedLemmas.{added_none, added_as}
use Rattle.tl_piece.proofs.PartLemmas.{added_again}
use Rattle.tl_piece.proofs.writer.Writer.add_repeated.Goals as goal

pub loop-init : goal.loop-init
loop-init g c = added_none g.O.Sink.seen c.args.self.now

pub loop-preserved : goal.loop-preserved
loop-preserved g c = added_again c.args.byte c.loop.counter c.loop.invariant c.add_byte.ensures

pub returns : goal.returns
returns g c =
    let all : c.loop.counter ≡ c.args.count = omega arith in
    added_as (ap (λ (n : ℕ). replicate n c.args.byte) all) c.loop.invariant
