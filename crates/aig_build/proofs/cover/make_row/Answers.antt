use Rattle.aig_core.specs.Aig.{Aig, first_and}
use Rattle.aig_build.proofs.CoverLemmas.{AreBelow-row}
use Rattle.aig_build.proofs.cover.make_row.Goals as goal

pub balanced_and-requires : goal.balanced_and-requires
balanced_and-requires c =
    let g : Aig = c.args.graph.now in
    rw (c.deref.ensures.value, c.in_ok-row_literals.ensures) (AreBelow-row (first_and g) g.pairs c.args.row.now.cells c.args.inputs.now c.requires.members)
