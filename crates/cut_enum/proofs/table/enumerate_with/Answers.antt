use Rattle.cut_enum.proofs.Lemmas.{arith, row_at, contains_one, AreRows-push}
use Rattle.cut_enum.proofs.table.enumerate_with.Goals as goal

pub loop-n-preserved : goal.loop-n-preserved
loop-n-preserved g c =
    rw (c.in_ok-table-2.ensures, c.deref.ensures.value) (AreRows-push c.args.graph.now c.args.k c.loop-n.n c.loop-n.table c.in_ok-row.row.items c.loop-n.invariant c.in_ok-row.ensures.ok c.in_ok-row.ensures.few (omega arith))

pub returns-clause-contains : goal.returns-clause-contains
returns-clause-contains g c n and =
    contains_one c.args.graph.now c.len-n-end.ensures.normal c.args.k n (row_at c.loop-n.table n) and (c.loop-n.invariant.each n (omega (arith, and.1)) and)
