use Rattle.std.proofs.Common.{arith}
use Rattle.bench_mapping.proofs.ShapeLemmas.{shape_is}
use Rattle.bench_mapping.proofs.sources.has_shape.Goals as goal

pub returns : goal.returns
returns c e =
    shape_is c.args.graph.now c.args.shape (omega arith) (λ n a b. c.are_of_kind.ensures c.if-not-are_of_kind.false n a b) (λ n a b. c.are_of_kind-2.ensures c.if-not-are_of_kind-2.false n a b)
    (λ n a b. c.are_of_kind-3.ensures e n a (omega (arith, c.sources-2.ensures.count)))
