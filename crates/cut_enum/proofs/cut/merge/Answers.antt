use Rattle.cut_enum.proofs.Common.{subst, IsAscending}
use Rattle.cut_sets.proofs.UnionLemmas.{merge_some, merge_none}
use Rattle.cut_enum.proofs.cut.merge.Goals as goal

pub returns-clause-some : goal.returns-clause-some
returns-clause-some c = merge_some c.args.a.now c.args.b.now c.args.k c.joined.result (subst IsAscending c.b.view_is c.b.invariant.ascending) c.joined.ensures

pub returns-clause-none : goal.returns-clause-none
returns-clause-none c = merge_none c.args.a.now c.args.b.now c.args.k c.joined.result (subst IsAscending c.b.view_is c.b.invariant.ascending) c.joined.ensures
