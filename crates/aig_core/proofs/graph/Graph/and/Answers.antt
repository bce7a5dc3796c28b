use Rattle.aig_core.proofs.Common.{Aig, and_of, with_pairs, IsProduct}
use Rattle.aig_core.proofs.ProductLemmas.{IsProduct-and_of, KeepsValues-and_of}
use Rattle.aig_core.proofs.graph.Graph.and.Goals as goal

pub returns-clause-product : goal.returns-clause-product
returns-clause-product c =
    let g : Aig = c.args.self.now in
    let made : IsProduct (with_pairs g (and_of g c.args.a.0 c.args.b.0).pairs) c.args.a.0 c.args.b.0 (and_of g c.args.a.0 c.args.b.0).lit =
    IsProduct-and_of g c.args.a.0 c.args.b.0 c.and_in_order.ensures.normal c.requires.a_in c.requires.b_in in
    rw (c.in_ok-lit.ensures.ok, c.in_ok-lit.ensures.lit, c.min.ensures, c.max.ensures) made

pub returns-clause-kept : goal.returns-clause-kept
returns-clause-kept c = rw (c.in_ok-lit.ensures.ok, c.min.ensures, c.max.ensures) (KeepsValues-and_of c.args.self.now c.args.a.0 c.args.b.0 c.and_in_order.ensures.normal)
